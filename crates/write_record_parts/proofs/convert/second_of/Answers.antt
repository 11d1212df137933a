use Rattle.common.proofs.Choose.{cases, told}
use Rattle.write_accept.specs.Fields.{has_second}
use Rattle.write_accept.specs.Entries.{second_of}
use Rattle.write_record_parts.proofs.Places.{second_none}
use borrow.Author.Rules.{rules}
use Rattle.write_record_parts.proofs.convert.second_of.Goals as goal

pub returns-then-is_boundary : goal.returns-then-is_boundary
unfolding second_of has_second
returns-then-is_boundary c = search (told, cases) depth 12

pub returns-else-is_boundary : goal.returns-else-is_boundary
unfolding second_of has_second
returns-else-is_boundary c = search (told, cases) depth 12

pub returns-else-i-eq4 : goal.returns-else-i-eq4
returns-else-i-eq4 c = search (second_none, rules)
