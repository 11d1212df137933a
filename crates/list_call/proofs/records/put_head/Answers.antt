use Rattle.common.proofs.Puts.{room_left, room_right, puts_then}
use Rattle.list_call.specs.Records.{head_bytes}
use borrow.Author.Rules.{rules}
use Rattle.list_call.proofs.records.put_head.Goals as goal

pub put_kind-a-requires : goal.put_kind-a-requires
unfolding head_bytes
put_kind-a-requires c = search (room_left, room_right, rules) depth 12

pub put_column-b-requires : goal.put_column-b-requires
unfolding head_bytes
put_column-b-requires c = search (room_left, room_right, rules) depth 12

pub put_in-requires : goal.put_in-requires
unfolding head_bytes
put_in-requires c = search (room_left, room_right, puts_then, rules) depth 12

pub returns : goal.returns
unfolding head_bytes
returns c = search (room_left, puts_then, rules) depth 12
