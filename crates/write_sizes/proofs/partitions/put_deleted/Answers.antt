use Rattle.common.proofs.Puts.{room_left, room_right, puts_then}
use Rattle.write_form.specs.Partitions.{deleted_bytes}
use borrow.Author.Rules.{rules}
use Rattle.write_sizes.proofs.partitions.put_deleted.Goals as goal

pub put_local-p-requires : goal.put_local-p-requires
unfolding deleted_bytes
put_local-p-requires c = search (room_left, room_right, puts_then, rules)

pub put_mark-requires : goal.put_mark-requires
unfolding deleted_bytes
put_mark-requires c = search (room_left, room_right, puts_then, rules)

pub returns : goal.returns
unfolding deleted_bytes
returns c = search (room_left, room_right, puts_then, rules)
