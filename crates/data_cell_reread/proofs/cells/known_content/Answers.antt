use Rattle.common.proofs.Choose.{cases}
use Rattle.data_cell_reread.proofs.KnownCells.{cells}
use Rattle.data_cell.specs.Cells.{content_at}
use borrow.Author.Rules.{rules}
use Rattle.data_cell_reread.proofs.cells.known_content.Goals as goal

pub known_sum-local-requires : goal.known_sum-local-requires
known_sum-local-requires c = search (cells, rules) depth 12

pub returns-then-f-eq1 : goal.returns-then-f-eq1
unfolding content_at
returns-then-f-eq1 c = search (cells, cases, rules) depth 12

pub known_last-requires : goal.known_last-requires
known_last-requires c = search (cells, rules) depth 12

pub returns : goal.returns
returns c = search (cells, rules) depth 12

pub known_lasting-kind-requires : goal.known_lasting-kind-requires
known_lasting-kind-requires c = search (cells, rules) depth 12
