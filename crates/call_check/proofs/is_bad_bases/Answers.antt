use Rattle.common.proofs.Choose.{cases}
use Rattle.call_check.specs.Tables.{bad_bases}
use Rattle.call_check.proofs.is_bad_bases.Goals as goal

pub returns-then-b-gt2147483647 : goal.returns-then-b-gt2147483647
unfolding bad_bases
returns-then-b-gt2147483647 c = search cases depth 12

pub returns : goal.returns
unfolding bad_bases
returns c = search cases depth 12
