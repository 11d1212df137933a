use Rattle.common.proofs.Puts.{room_left, room_right, puts_then}
use Rattle.write_row_parts.specs.Parts.{rest_form}
use borrow.Author.Rules.{rules}
use Rattle.write_row_parts.proofs.heads.put_rest.Goals as goal

pub put_deletion-p-requires : goal.put_deletion-p-requires
unfolding rest_form
put_deletion-p-requires c = search (room_left, room_right, puts_then, rules)

pub put_missing-requires : goal.put_missing-requires
unfolding rest_form
put_missing-requires c = search (room_left, room_right, puts_then, rules)

pub returns : goal.returns
unfolding rest_form
returns c = search (room_left, room_right, puts_then, rules)
