use Rattle.common.proofs.Choose.{cases}
use Rattle.write_form.specs.Cells.{ttl_bytes}
use Rattle.write_number.proofs.Writing.{writing}
use borrow.Author.Rules.{rules}
use Rattle.write_cell.proofs.cells.ttl_len.Goals as goal

pub returns-then-cell-eq1 : goal.returns-then-cell-eq1
unfolding ttl_bytes
returns-then-cell-eq1 c = search (writing, cases, rules) depth 12

pub returns : goal.returns
unfolding ttl_bytes
returns c = search (writing, cases, rules) depth 12
