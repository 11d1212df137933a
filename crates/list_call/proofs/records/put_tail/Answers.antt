use Rattle.common.proofs.Puts.{room_left, room_right, puts_then, puts_same}
use Rattle.list_call.specs.Records.{tail_bytes}
use borrow.Author.Rules.{rules}
use Rattle.list_call.proofs.records.put_tail.Goals as goal

pub put_second-a-requires : goal.put_second-a-requires
unfolding tail_bytes
put_second-a-requires c = search (room_left, room_right, rules) depth 12

pub put_place-requires : goal.put_place-requires
unfolding tail_bytes
put_place-requires c = search (room_left, room_right, puts_then, puts_same, rules) depth 12

pub returns : goal.returns
unfolding tail_bytes
returns c = search (puts_then, rules) depth 12
