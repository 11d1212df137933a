use Rattle.common.proofs.Puts.{room_left, room_right, puts_then, puts_same}
use Rattle.stats_file.specs.Header.{record_of}
use Rattle.std.proofs.Common.{rules}
use Rattle.stats_file.proofs.columns.put_record.Goals as goal

pub put_head-next-requires : goal.put_head-next-requires
unfolding record_of
put_head-next-requires c = search (room_left, room_right, rules)

pub put_tail-requires : goal.put_tail-requires
unfolding record_of
put_tail-requires c = search (room_left, room_right, puts_then, puts_same, rules)

pub returns : goal.returns
unfolding record_of
returns c = search (puts_then, rules)
