use Rattle.common.proofs.Puts.{room_left, room_right, puts_then}
use Rattle.list_call.specs.Records.{second_bytes}
use borrow.Author.Rules.{rules}
use Rattle.list_call.proofs.records.put_second.Goals as goal

pub put_signed-a-requires : goal.put_signed-a-requires
unfolding second_bytes
put_signed-a-requires c = search (room_left, room_right, rules) depth 12

pub put_in-b-requires : goal.put_in-b-requires
unfolding second_bytes
put_in-b-requires c = search (room_left, room_right, rules) depth 12

pub put_in-requires : goal.put_in-requires
unfolding second_bytes
put_in-requires c = search (room_left, room_right, puts_then, rules) depth 12

pub returns : goal.returns
unfolding second_bytes
returns c = search (room_left, puts_then, rules) depth 12
