use Rattle.write_number.proofs.Writing.{put_cell}
use borrow.Author.Rules.{rules}
use Rattle.write_cell.proofs.cells.put_cell.Goals as goal

pub put_byte-p-requires : goal.put_byte-p-requires
put_byte-p-requires c = search (put_cell, rules)

pub put_tail-requires : goal.put_tail-requires
put_tail-requires c = search (put_cell, rules)

pub returns : goal.returns
returns c = search (put_cell, rules)
