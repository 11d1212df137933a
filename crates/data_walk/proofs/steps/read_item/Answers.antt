use Rattle.common.proofs.Choose.{cases}
use Rattle.common.proofs.Said.{trying}
use Rattle.data_walk.proofs.Said.{moves, moved_again}
use Rattle.data_walk.specs.Steps.{item_step}
use Rattle.data_walk.proofs.steps.read_item.Goals as goal

pub returns-then-value-eq1 : goal.returns-then-value-eq1
unfolding item_step
returns-then-value-eq1 c = search (trying, moves, cases) depth 12

pub returns-then-value-eq2 : goal.returns-then-value-eq2
unfolding item_step
returns-then-value-eq2 c = search (trying, moves, cases) depth 12

pub returns-in_err-value : goal.returns-in_err-value
unfolding item_step
returns-in_err-value c = moved_again _ _ _ c.from_residual.ensures (search (trying, moves, cases) depth 12)

pub returns : goal.returns
unfolding item_step
returns c = search (trying, moves, cases) depth 12
