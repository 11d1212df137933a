use Rattle.common.proofs.Puts.{room_left, room_right, puts_then}
use borrow.Author.Rules.{rules}
use Rattle.write_store_parts.proofs.rows.put_counted.Goals as goal

pub put_prefix-body-requires : goal.put_prefix-body-requires
put_prefix-body-requires c = search (room_left, room_right, puts_then, rules)

pub put_sized-requires : goal.put_sized-requires
put_sized-requires c = search (room_left, room_right, puts_then, rules)

pub returns : goal.returns
returns c = search (room_left, room_right, puts_then, rules)
