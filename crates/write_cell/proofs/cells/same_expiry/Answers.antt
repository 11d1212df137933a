use Rattle.common.proofs.Choose.{cases}
use Rattle.write_form.specs.Cells.{same_expiry}
use borrow.Author.Rules.{rules}
use Rattle.write_cell.proofs.cells.same_expiry.Goals as goal

pub returns-then-cell-ne1 : goal.returns-then-cell-ne1
unfolding same_expiry
returns-then-cell-ne1 c = search (cases, rules) depth 12

pub returns-then-row-ne1 : goal.returns-then-row-ne1
unfolding same_expiry
returns-then-row-ne1 c = search (cases, rules) depth 12

pub returns-then-row-cell : goal.returns-then-row-cell
unfolding same_expiry
returns-then-row-cell c = search (cases, rules) depth 12

pub returns-then-row-cell-2 : goal.returns-then-row-cell-2
unfolding same_expiry
returns-then-row-cell-2 c = search (cases, rules) depth 12

pub returns : goal.returns
unfolding same_expiry
returns c = search (cases, rules) depth 12
