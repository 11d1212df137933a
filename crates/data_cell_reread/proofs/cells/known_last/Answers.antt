use Rattle.common.proofs.Choose.{cases}
use Rattle.data_cell_reread.proofs.KnownCells.{cells}
use Rattle.data_cell.specs.Cells.{last_at}
use borrow.Author.Rules.{rules}
use Rattle.data_cell_reread.proofs.cells.known_last.Goals as goal

pub returns-then-f-eq1 : goal.returns-then-f-eq1
unfolding last_at
returns-then-f-eq1 c = search (cells, cases, rules) depth 12

pub returns : goal.returns
unfolding last_at
returns c = search (cells, cases, rules) depth 12

pub known_value-next-requires : goal.known_value-next-requires
unfolding last_at
known_value-next-requires c = search (cells, cases, rules) depth 12
