use Rattle.common.proofs.Choose.{cases, told}
use Rattle.write_number.proofs.Writing.{writing}
use Rattle.write_row_parts.specs.Parts.{second_form}
use borrow.Author.Rules.{rules}
use Rattle.write_row_parts.proofs.markers.second_len.Goals as goal

pub returns-then-is_boundary : goal.returns-then-is_boundary
unfolding second_form
returns-then-is_boundary c = search (writing, told, cases, rules) depth 12

pub returns : goal.returns
unfolding second_form
returns c = search (writing, told, cases, rules) depth 12
