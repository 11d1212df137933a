use Rattle.common.proofs.Puts.{room_left, room_right, puts_then}
use Rattle.write_row_parts.specs.Parts.{bound_form}
use borrow.Author.Rules.{rules}
use Rattle.write_row_parts.proofs.markers.put_bound.Goals as goal

pub put_byte-p-requires : goal.put_byte-p-requires
unfolding bound_form
put_byte-p-requires c = search (room_left, room_right, puts_then, rules)

pub put_kind-requires : goal.put_kind-requires
unfolding bound_form
put_kind-requires c = search (room_left, room_right, puts_then, rules)

pub returns : goal.returns
unfolding bound_form
returns c = search (room_left, room_right, puts_then, rules)
