use Rattle.common.proofs.Puts.{room_left, room_right, puts_then}
use borrow.Author.Rules.{rules}
use Rattle.write_store_parts.proofs.rows.put_extended.Goals as goal

pub returns : goal.returns
returns c = search (room_left, room_right, puts_then, rules)
