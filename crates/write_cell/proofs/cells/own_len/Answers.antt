use Rattle.write_number.proofs.Writing.{writing}
use borrow.Author.Rules.{rules}
use Rattle.write_cell.proofs.cells.own_len.Goals as goal

pub returns : goal.returns
returns c = search (writing, rules) depth 12
