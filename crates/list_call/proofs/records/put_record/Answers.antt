use Rattle.common.proofs.Puts.{room_left, room_right, puts_then}
use Rattle.list_call.specs.Records.{record_of}
use borrow.Author.Rules.{rules}
use Rattle.list_call.proofs.records.put_record.Goals as goal

pub put_head-a-requires : goal.put_head-a-requires
unfolding record_of
put_head-a-requires c = search (room_left, room_right, rules) depth 12

pub put_times-b-requires : goal.put_times-b-requires
unfolding record_of
put_times-b-requires c = search (room_left, room_right, rules) depth 12

pub put_tail-requires : goal.put_tail-requires
unfolding record_of
put_tail-requires c = search (room_left, room_right, puts_then, rules) depth 12

pub returns : goal.returns
unfolding record_of
returns c = search (room_left, puts_then, rules) depth 12
