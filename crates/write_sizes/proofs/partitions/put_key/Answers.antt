use Rattle.common.proofs.Puts.{room_left, room_right, puts_then}
use borrow.Author.Rules.{rules}
use Rattle.write_sizes.proofs.partitions.put_key.Goals as goal

pub put_part-p-requires : goal.put_part-p-requires
put_part-p-requires c = search (room_left, room_right, puts_then, rules)

pub put_deleted-requires : goal.put_deleted-requires
put_deleted-requires c = search (room_left, room_right, puts_then, rules)

pub returns : goal.returns
returns c = search (room_left, room_right, puts_then, rules)
