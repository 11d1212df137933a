use Rattle.common.proofs.Choose.{cases}
use Rattle.data_turns.specs.Turns.{may_stand}
use Rattle.data_turns.proofs.may_stand.Goals as goal

pub returns-then-first-gt0 : goal.returns-then-first-gt0
unfolding may_stand
returns-then-first-gt0 c = search cases depth 12

pub returns : goal.returns
unfolding may_stand
returns c = search cases depth 12
