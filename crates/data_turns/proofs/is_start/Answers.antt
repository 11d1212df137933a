use Rattle.common.proofs.Choose.{cases}
use Rattle.data_turns.specs.Turns.{is_start}
use Rattle.data_turns.proofs.is_start.Goals as goal

pub returns-then-kind-eq1 : goal.returns-then-kind-eq1
unfolding is_start
returns-then-kind-eq1 c = search cases depth 12

pub returns : goal.returns
unfolding is_start
returns c = search cases depth 12
