use Rattle.common.proofs.Choose.{cases}
use Rattle.write_form.specs.Cells.{kind_bits}
use borrow.Author.Rules.{rules}
use Rattle.write_cell.proofs.cells.kind_bits.Goals as goal

pub returns-then-cell-eq0 : goal.returns-then-cell-eq0
unfolding kind_bits
returns-then-cell-eq0 c = search (cases, rules) depth 12

pub returns-then-cell-eq1 : goal.returns-then-cell-eq1
unfolding kind_bits
returns-then-cell-eq1 c = search (cases, rules) depth 12

pub returns : goal.returns
unfolding kind_bits
returns c = search (cases, rules) depth 12
