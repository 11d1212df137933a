use Rattle.write_number.proofs.Writing.{writing}
use Rattle.write_cell.specs.Sizes.{cell_size}
use borrow.Author.Rules.{rules}
use Rattle.write_cell.proofs.cells.cell_len.Goals as goal

pub returns : goal.returns
unfolding cell_size
returns c = search (writing, rules) depth 12
