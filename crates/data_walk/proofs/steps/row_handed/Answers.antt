use Rattle.data_walk.proofs.Said.{moves}
use Rattle.common.proofs.Choose.{cases}
use Rattle.data_walk.specs.Steps.{row_handed}
use Rattle.data_walk.proofs.steps.row_handed.Goals as goal

pub returns-then-row-eq1 : goal.returns-then-row-eq1
unfolding row_handed
returns-then-row-eq1 c = search (moves, cases) depth 12

pub returns-then-k-eq0 : goal.returns-then-k-eq0
unfolding row_handed
returns-then-k-eq0 c = search (moves, cases) depth 12

pub returns : goal.returns
unfolding row_handed
returns c = search (moves, cases) depth 12
