use Rattle.data_cell_reread.proofs.KnownCells.{cells}
use Rattle.common.proofs.Choose.{cases}
use Rattle.data_cell.specs.Cells.{own_at}
use borrow.Author.Rules.{rules}
use Rattle.data_cell_reread.proofs.cells.known_own.Goals as goal

pub known_sum-local-requires : goal.known_sum-local-requires
known_sum-local-requires c = search (cells, rules) depth 12

pub known_sum-ttl-requires : goal.known_sum-ttl-requires
known_sum-ttl-requires c = search (cells, rules) depth 12

pub returns : goal.returns
unfolding own_at
returns c = search (cells, cases, rules) depth 12
