use Rattle.common.proofs.Puts.{room_left, room_right, puts_then}
use Rattle.write_store_parts.specs.Again.{fixed_again}
use borrow.Author.Rules.{rules}
use Rattle.write_store_parts.proofs.rows.put_fixed.Goals as goal

pub put_flags-extended-requires : goal.put_flags-extended-requires
unfolding fixed_again
put_flags-extended-requires c = search (room_left, room_right, puts_then, rules)

pub put_extended-requires : goal.put_extended-requires
unfolding fixed_again
put_extended-requires c = search (room_left, room_right, puts_then, rules)

pub returns : goal.returns
unfolding fixed_again
returns c = search (room_left, room_right, puts_then, rules)
