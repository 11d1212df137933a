use Rattle.common.proofs.Choose.{cases}
use Rattle.write_form.specs.Cells.{expiry_bytes}
use Rattle.write_number.proofs.Writing.{writing}
use borrow.Author.Rules.{rules}
use Rattle.write_cell.proofs.cells.expiry_len.Goals as goal

pub returns-then-cell-eq0 : goal.returns-then-cell-eq0
unfolding expiry_bytes
returns-then-cell-eq0 c = search (writing, cases, rules) depth 12

pub returns-then-same_expiry-eq1 : goal.returns-then-same_expiry-eq1
unfolding expiry_bytes
returns-then-same_expiry-eq1 c = search (writing, cases, rules) depth 12

pub returns : goal.returns
unfolding expiry_bytes
returns c = search (writing, cases, rules) depth 12
