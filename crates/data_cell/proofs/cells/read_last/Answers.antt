use Rattle.common.proofs.Choose.{cases, told}
use Rattle.common.proofs.Said.{trying, said_again}
use Rattle.data_field.specs.Fields.{value_at}
use Rattle.data_cell.specs.Cells.{last_at}
use borrow.Author.Rules.{rules}
use Rattle.data_cell.proofs.cells.read_last.Goals as goal

pub returns-then-f-eq1 : goal.returns-then-f-eq1
unfolding last_at value_at
returns-then-f-eq1 c = search (trying, told, cases, rules) depth 12

pub returns-in_err-value : goal.returns-in_err-value
unfolding last_at value_at
returns-in_err-value c = said_again _ _ _ c.from_residual.ensures (search (trying, told, cases, rules) depth 12)

pub returns-then-width-eq255 : goal.returns-then-width-eq255
unfolding last_at value_at
returns-then-width-eq255 c = search (trying, told, cases, rules) depth 12

pub returns-in_err-value-2 : goal.returns-in_err-value-2
unfolding last_at value_at
returns-in_err-value-2 c = said_again _ _ _ c.from_residual-in_err-value-2.ensures (search (trying, told, cases, rules) depth 12)

pub returns : goal.returns
unfolding last_at value_at
returns c = search (trying, told, cases, rules) depth 12
