use Rattle.common.proofs.Puts.{room_left, room_right, puts_then, puts_same}
use Rattle.list.specs.Files.{name_of}
use borrow.Author.Rules.{rules}
use Rattle.list.proofs.files.put_name.Goals as goal

pub put_bytes-next-requires : goal.put_bytes-next-requires
unfolding name_of
put_bytes-next-requires c = search (room_left, room_right, puts_then, puts_same, rules)

pub put_bytes-requires : goal.put_bytes-requires
unfolding name_of
put_bytes-requires c = search (room_left, room_right, puts_then, puts_same, rules)

pub returns : goal.returns
unfolding name_of
returns c = search (room_left, room_right, puts_then, puts_same, rules)
