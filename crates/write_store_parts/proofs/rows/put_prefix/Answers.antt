use Rattle.common.proofs.Puts.{room_left, room_right, puts_then}
use Rattle.write_store_parts.specs.Again.{prefix_again}
use borrow.Author.Rules.{rules}
use Rattle.write_store_parts.proofs.rows.put_prefix.Goals as goal

pub put_header_of-out-requires : goal.put_header_of-out-requires
unfolding prefix_again
put_header_of-out-requires c = search (room_left, room_right, puts_then, rules)

pub put_values-requires : goal.put_values-requires
unfolding prefix_again
put_values-requires c = search (room_left, room_right, puts_then, rules)

pub returns : goal.returns
unfolding prefix_again
returns c = search (room_left, room_right, puts_then, rules)
