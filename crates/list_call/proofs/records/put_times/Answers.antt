use Rattle.common.proofs.Puts.{room_left, room_right, puts_then}
use Rattle.list_call.specs.Records.{time_bytes}
use borrow.Author.Rules.{rules}
use Rattle.list_call.proofs.records.put_times.Goals as goal

pub put_signed-a-requires : goal.put_signed-a-requires
unfolding time_bytes
put_signed-a-requires c = search (room_left, room_right, rules) depth 12

pub put_signed-b-requires : goal.put_signed-b-requires
unfolding time_bytes
put_signed-b-requires c = search (room_left, room_right, rules) depth 12

pub put_locals-requires : goal.put_locals-requires
unfolding time_bytes
put_locals-requires c = search (room_left, room_right, puts_then, rules) depth 12

pub returns : goal.returns
unfolding time_bytes
returns c = search (room_left, puts_then, rules) depth 12
