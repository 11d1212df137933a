use Rattle.data_walk.proofs.Said.{moves}
use Rattle.common.proofs.Choose.{cases}
use Rattle.data_walk.specs.Steps.{end_step}
use Rattle.data_walk.proofs.steps.read_end.Goals as goal

pub returns-then-opened-eq0 : goal.returns-then-opened-eq0
unfolding end_step
returns-then-opened-eq0 c = search (moves, cases) depth 12

pub returns : goal.returns
unfolding end_step
returns c = search (moves, cases) depth 12
