use Rattle.common.proofs.Puts.{room_left, room_right, puts_then, puts_same}
use Rattle.list_call.specs.Records.{kind_bytes}
use borrow.Author.Rules.{rules}
use Rattle.list_call.proofs.records.put_kind.Goals as goal

pub put_in-a-requires : goal.put_in-a-requires
unfolding kind_bytes
put_in-a-requires c = search (room_left, room_right, rules) depth 12

pub put_in-requires : goal.put_in-requires
unfolding kind_bytes
put_in-requires c = search (room_left, room_right, puts_then, puts_same, rules) depth 12

pub returns : goal.returns
unfolding kind_bytes
returns c = search (puts_then, rules) depth 12
