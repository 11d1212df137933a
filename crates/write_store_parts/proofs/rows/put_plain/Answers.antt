use Rattle.common.proofs.Puts.{room_left, room_right, puts_then}
use Rattle.write_store_parts.specs.Again.{plain_again}
use borrow.Author.Rules.{rules}
use Rattle.write_store_parts.proofs.rows.put_plain.Goals as goal

pub put_flags-prefix-requires : goal.put_flags-prefix-requires
unfolding plain_again
put_flags-prefix-requires c = search (room_left, room_right, puts_then, rules)

pub put_unflagged-requires : goal.put_unflagged-requires
unfolding plain_again
put_unflagged-requires c = search (room_left, room_right, puts_then, rules)

pub returns : goal.returns
unfolding plain_again
returns c = search (room_left, room_right, puts_then, rules)
