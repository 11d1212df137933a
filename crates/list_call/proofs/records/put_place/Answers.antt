use Rattle.common.proofs.Puts.{room_left, room_right, puts_then, puts_same}
use Rattle.list_call.specs.Records.{place_bytes}
use borrow.Author.Rules.{rules}
use Rattle.list_call.proofs.records.put_place.Goals as goal

pub put_in-a-requires : goal.put_in-a-requires
unfolding place_bytes
put_in-a-requires c = search (room_left, room_right, rules) depth 12

pub put_in-requires : goal.put_in-requires
unfolding place_bytes
put_in-requires c = search (room_left, room_right, puts_then, puts_same, rules) depth 12

pub returns : goal.returns
unfolding place_bytes
returns c = search (puts_then, rules) depth 12
