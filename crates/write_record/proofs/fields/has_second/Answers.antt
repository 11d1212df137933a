use Rattle.common.proofs.Choose.{cases, told}
use Rattle.write_accept.specs.Fields.{has_second}
use Rattle.write_record.proofs.fields.has_second.Goals as goal

pub returns-then-i-eq4 : goal.returns-then-i-eq4
unfolding has_second
returns-then-i-eq4 c = search (told, cases) depth 12

pub returns : goal.returns
unfolding has_second
returns c = search (told, cases) depth 12
