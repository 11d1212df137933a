use Rattle.common.proofs.Choose.{cases, told}
use Rattle.write_accept.specs.Fields.{has_column}
use Rattle.write_record.proofs.fields.has_column.Goals as goal

pub returns-then-i-lt4 : goal.returns-then-i-lt4
unfolding has_column
returns-then-i-lt4 c = search (told, cases) depth 12

pub returns : goal.returns
unfolding has_column
returns c = search (told, cases) depth 12
