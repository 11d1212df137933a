use Rattle.data_cell_reread.proofs.KnownCells.{cells}
use Rattle.common.proofs.Choose.{cases}
use Rattle.data_cell.specs.Cells.{lasting_at}
use borrow.Author.Rules.{rules}
use Rattle.data_cell_reread.proofs.cells.known_lasting.Goals as goal

pub returns-then-f-eq1-2 : goal.returns-then-f-eq1-2
unfolding lasting_at
returns-then-f-eq1-2 c = search (cells, cases, rules) depth 12

pub known_own-requires : goal.known_own-requires
known_own-requires c = search (cells, rules) depth 12

pub returns-then-f-eq1 : goal.returns-then-f-eq1
unfolding lasting_at
returns-then-f-eq1 c = search (cells, cases, rules) depth 12

pub returns : goal.returns
unfolding lasting_at
returns c = search (cells, cases, rules) depth 12
