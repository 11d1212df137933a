use Rattle.data_cell_reread.proofs.KnownCells.{cells}
use Rattle.common.proofs.Choose.{cases}
use Rattle.data_cell.specs.Cells.{time_at}
use borrow.Author.Rules.{rules}
use Rattle.data_cell_reread.proofs.cells.known_time.Goals as goal

pub returns-then-f-eq1 : goal.returns-then-f-eq1
unfolding time_at
returns-then-f-eq1 c = search (cells, cases, rules) depth 12

pub known_sum-requires : goal.known_sum-requires
known_sum-requires c = search (cells, rules) depth 12

pub returns : goal.returns
unfolding time_at
returns c = search (cells, cases, rules) depth 12
