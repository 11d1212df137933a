use Rattle.common.proofs.Choose.{cases, told}
use Rattle.write_accept.specs.Fields.{has_local}
use Rattle.write_accept.specs.Entries.{deletion_of}
use Rattle.write_record_parts.proofs.convert.deletion_of.Goals as goal

pub returns-then-i-eq1 : goal.returns-then-i-eq1
unfolding deletion_of has_local
returns-then-i-eq1 c = search (told, cases) depth 12

pub returns : goal.returns
unfolding deletion_of has_local
returns c = search (told, cases) depth 12
