use Rattle.common.proofs.Puts.{room_left, room_right, puts_then}
use Rattle.write_form.specs.Cells.{tail_bytes}
use borrow.Author.Rules.{rules}
use Rattle.write_cell.proofs.cells.put_tail.Goals as goal

pub put_timestamp-p-requires : goal.put_timestamp-p-requires
unfolding tail_bytes
put_timestamp-p-requires c = search (room_left, room_right, puts_then, rules)

pub put_last-requires : goal.put_last-requires
unfolding tail_bytes
put_last-requires c = search (room_left, room_right, puts_then, rules)

pub returns : goal.returns
unfolding tail_bytes
returns c = search (room_left, room_right, puts_then, rules)
