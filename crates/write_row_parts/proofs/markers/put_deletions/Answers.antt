use Rattle.common.proofs.Puts.{room_left, room_right, puts_then}
use Rattle.write_form.specs.Markers.{deletions_bytes}
use Rattle.write_row_parts.specs.Parts.{second_form}
use borrow.Author.Rules.{rules}
use Rattle.write_row_parts.proofs.markers.put_deletions.Goals as goal

pub put_deletion-p-requires : goal.put_deletion-p-requires
unfolding deletions_bytes second_form
put_deletion-p-requires c = search (room_left, room_right, puts_then, rules)

pub put_second-requires : goal.put_second-requires
unfolding deletions_bytes second_form
put_second-requires c = search (room_left, room_right, puts_then, rules)

pub returns : goal.returns
unfolding deletions_bytes second_form
returns c = search (room_left, room_right, puts_then, rules)
