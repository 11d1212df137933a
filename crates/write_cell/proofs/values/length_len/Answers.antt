use Rattle.common.proofs.Choose.{cases}
use Rattle.write_form.specs.Cells.{length_bytes}
use Rattle.write_number.proofs.Writing.{writing}
use borrow.Author.Rules.{rules}
use Rattle.write_cell.proofs.values.length_len.Goals as goal

pub returns-then-width-eq255 : goal.returns-then-width-eq255
unfolding length_bytes
returns-then-width-eq255 c = search (writing, cases, rules) depth 12

pub returns : goal.returns
unfolding length_bytes
returns c = search (writing, cases, rules) depth 12
