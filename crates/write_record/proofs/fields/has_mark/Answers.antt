use Rattle.common.proofs.Choose.{cases, told}
use Rattle.write_accept.specs.Fields.{has_mark}
use Rattle.write_record.proofs.fields.has_mark.Goals as goal

pub returns-then-i-eq6 : goal.returns-then-i-eq6
unfolding has_mark
returns-then-i-eq6 c = search (told, cases) depth 12

pub returns : goal.returns
unfolding has_mark
returns c = search (told, cases) depth 12
