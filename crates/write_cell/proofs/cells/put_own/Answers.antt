use Rattle.common.proofs.Puts.{room_left, room_right, puts_then}
use borrow.Author.Rules.{rules}
use Rattle.write_cell.proofs.cells.put_own.Goals as goal

pub put_delta-p-requires : goal.put_delta-p-requires
put_delta-p-requires c = search (room_left, room_right, puts_then, rules)

pub put_ttl-requires : goal.put_ttl-requires
put_ttl-requires c = search (room_left, room_right, puts_then, rules)

pub returns : goal.returns
returns c = search (room_left, room_right, puts_then, rules)
