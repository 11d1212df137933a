use Rattle.common.proofs.Choose.{cases, told}
use Rattle.write_accept.specs.Fields.{has_time, has_expiry}
use Rattle.write_accept.specs.Entries.{times_of}
use Rattle.write_record_parts.proofs.convert.times_of.Goals as goal

pub returns-then-i-eq1-2 : goal.returns-then-i-eq1-2
unfolding times_of has_time has_expiry
returns-then-i-eq1-2 c = search (told, cases) depth 12

pub returns-then-i-eq1 : goal.returns-then-i-eq1
unfolding times_of has_time has_expiry
returns-then-i-eq1 c = search (told, cases) depth 12

pub returns : goal.returns
unfolding times_of has_time has_expiry
returns c = search (told, cases) depth 12
