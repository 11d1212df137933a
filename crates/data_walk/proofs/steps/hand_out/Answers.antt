use Rattle.common.proofs.Choose.{cases}
use Rattle.data_walk.proofs.Said.{moves}
use Rattle.data_walk.specs.Steps.{handed}
use Rattle.data_walk.proofs.steps.hand_out.Goals as goal

pub returns-in-Ok : goal.returns-in-Ok
unfolding handed
returns-in-Ok c = search (moves, cases) depth 12

pub returns-in-Err : goal.returns-in-Err
unfolding handed
returns-in-Err c = search (moves, cases) depth 12
