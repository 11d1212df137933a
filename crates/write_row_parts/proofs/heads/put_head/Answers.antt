use Rattle.common.proofs.Puts.{room_left, room_right, puts_then}
use Rattle.write_row_parts.specs.Parts.{head_form}
use borrow.Author.Rules.{rules}
use Rattle.write_row_parts.proofs.heads.put_head.Goals as goal

pub put_liveness-p-requires : goal.put_liveness-p-requires
unfolding head_form
put_liveness-p-requires c = search (room_left, room_right, puts_then, rules)

pub put_rest-requires : goal.put_rest-requires
unfolding head_form
put_rest-requires c = search (room_left, room_right, puts_then, rules)

pub returns : goal.returns
unfolding head_form
returns c = search (room_left, room_right, puts_then, rules)
