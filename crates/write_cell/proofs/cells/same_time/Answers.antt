use Rattle.common.proofs.Choose.{cases}
use Rattle.write_form.specs.Cells.{same_time}
use borrow.Author.Rules.{rules}
use Rattle.write_cell.proofs.cells.same_time.Goals as goal

pub returns-then-row-ne1 : goal.returns-then-row-ne1
unfolding same_time
returns-then-row-ne1 c = search (cases, rules) depth 12

pub returns-then-row-cell : goal.returns-then-row-cell
unfolding same_time
returns-then-row-cell c = search (cases, rules) depth 12

pub returns : goal.returns
unfolding same_time
returns c = search (cases, rules) depth 12
