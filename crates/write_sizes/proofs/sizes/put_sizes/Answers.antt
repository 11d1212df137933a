use Rattle.common.proofs.Puts.{room_left, room_right, puts_then}
use Rattle.write_row_parts.specs.Parts.{sizes_form}
use borrow.Author.Rules.{rules}
use Rattle.write_sizes.proofs.sizes.put_sizes.Goals as goal

pub put_body_size-p-requires : goal.put_body_size-p-requires
unfolding sizes_form
put_body_size-p-requires c = search (room_left, room_right, puts_then, rules)

pub put_in-requires : goal.put_in-requires
unfolding sizes_form
put_in-requires c = search (room_left, room_right, puts_then, rules)

pub returns : goal.returns
unfolding sizes_form
returns c = search (room_left, room_right, puts_then, rules)
