use Rattle.common.proofs.Puts.{room_left, room_right, puts_then}
use Rattle.write_form.specs.Cells.{last_bytes}
use borrow.Author.Rules.{rules}
use Rattle.write_cell.proofs.cells.put_last.Goals as goal

pub put_expiry-p-requires : goal.put_expiry-p-requires
unfolding last_bytes
put_expiry-p-requires c = search (room_left, room_right, puts_then, rules)

pub put_content-requires : goal.put_content-requires
unfolding last_bytes
put_content-requires c = search (room_left, room_right, puts_then, rules)

pub returns : goal.returns
unfolding last_bytes
returns c = search (room_left, room_right, puts_then, rules)
