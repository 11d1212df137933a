use Rattle.common.proofs.Puts.{room_left, room_right, puts_then, puts_same}
use Rattle.stats_file.specs.Header.{tail_of}
use Rattle.std.proofs.Common.{rules}
use Rattle.stats_file.proofs.columns.put_tail.Goals as goal

pub put_place-next-requires : goal.put_place-next-requires
unfolding tail_of
put_place-next-requires c = search (room_left, room_right, rules)

pub put_in-requires : goal.put_in-requires
unfolding tail_of
put_in-requires c = search (room_left, room_right, puts_then, puts_same, rules)

pub returns : goal.returns
unfolding tail_of
returns c = search (puts_then, rules)
