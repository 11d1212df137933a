use Rattle.common.proofs.Choose.{cases}
use Rattle.write_form.specs.Cells.{no_value}
use borrow.Author.Rules.{rules}
use Rattle.write_cell.proofs.cells.no_value.Goals as goal

pub returns-then-cell-gt1 : goal.returns-then-cell-gt1
unfolding no_value
returns-then-cell-gt1 c = search (cases, rules) depth 12

pub returns-then-n-eq0 : goal.returns-then-n-eq0
unfolding no_value
returns-then-n-eq0 c = search (cases, rules) depth 12

pub returns : goal.returns
unfolding no_value
returns c = search (cases, rules) depth 12
