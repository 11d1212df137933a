use Rattle.data_cell_reread.proofs.KnownCells.{cells}
use borrow.Author.Rules.{rules}
use Rattle.data_cell_reread.proofs.cells.known_cell.Goals as goal

pub known_byte-flags-requires : goal.known_byte-flags-requires
known_byte-flags-requires c = search (cells, rules) depth 12

pub known_time-time-requires : goal.known_time-time-requires
known_time-time-requires c = search (cells, rules) depth 12

pub known_content-requires : goal.known_content-requires
known_content-requires c = search (cells, rules) depth 12

pub returns : goal.returns
returns c = search (cells, rules) depth 12
