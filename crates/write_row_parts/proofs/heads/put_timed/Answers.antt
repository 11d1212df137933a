use Rattle.common.proofs.Puts.{room_left, room_right, puts_then}
use borrow.Author.Rules.{rules}
use Rattle.write_row_parts.proofs.heads.put_timed.Goals as goal

pub put_delta-p-requires : goal.put_delta-p-requires
put_delta-p-requires c = search (room_left, room_right, puts_then, rules)

pub put_expiry-requires : goal.put_expiry-requires
put_expiry-requires c = search (room_left, room_right, puts_then, rules)

pub returns : goal.returns
returns c = search (room_left, room_right, puts_then, rules)
