use Rattle.common.proofs.Choose.{cases}
use Rattle.data_turns.specs.Turns.{is_boundary}
use Rattle.data_turns.proofs.is_boundary.Goals as goal

pub returns-then-kind-eq2 : goal.returns-then-kind-eq2
unfolding is_boundary
returns-then-kind-eq2 c = search cases depth 12

pub returns : goal.returns
unfolding is_boundary
returns c = search cases depth 12
