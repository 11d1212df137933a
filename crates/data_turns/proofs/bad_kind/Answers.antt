use Rattle.common.proofs.Choose.{cases}
use Rattle.data_turns.specs.Turns.{bad_kind}
use Rattle.data_turns.proofs.bad_kind.Goals as goal

pub returns-then-kind-gt7 : goal.returns-then-kind-gt7
unfolding bad_kind
returns-then-kind-gt7 c = search cases depth 12

pub returns-then-kind-eq3 : goal.returns-then-kind-eq3
unfolding bad_kind
returns-then-kind-eq3 c = search cases depth 12

pub returns : goal.returns
unfolding bad_kind
returns c = search cases depth 12
