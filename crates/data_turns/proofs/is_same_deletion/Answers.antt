use Rattle.common.proofs.Choose.{cases}
use Rattle.data_turns.specs.Turns.{same_deletion}
use Rattle.data_turns.proofs.is_same_deletion.Goals as goal

pub returns-then-d-e : goal.returns-then-d-e
unfolding same_deletion
returns-then-d-e c = search cases depth 12

pub returns : goal.returns
unfolding same_deletion
returns c = search cases depth 12
