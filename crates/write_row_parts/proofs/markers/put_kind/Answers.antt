use Rattle.common.proofs.Puts.{room_left, room_right, puts_then}
use borrow.Author.Rules.{rules}
use Rattle.write_row_parts.proofs.markers.put_kind.Goals as goal

pub returns : goal.returns
returns c = search (room_left, room_right, puts_then, rules)
