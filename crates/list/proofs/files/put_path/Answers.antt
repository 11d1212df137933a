use Rattle.common.proofs.Puts.{room_left, room_right, puts_then, puts_same}
use Rattle.list.specs.Files.{path_of}
use Rattle.list.proofs.Paths.{path_most}
use borrow.Author.Rules.{rules}
use Rattle.list.proofs.files.put_path.Goals as goal

pub put_bytes-next-requires : goal.put_bytes-next-requires
unfolding path_of
put_bytes-next-requires c = search (room_left, room_right, puts_then, path_most, puts_same, rules)

pub put_name-requires : goal.put_name-requires
unfolding path_of
put_name-requires c = search (room_left, room_right, puts_then, path_most, puts_same, rules)

pub returns-clause-puts : goal.returns-clause-puts
unfolding path_of
returns-clause-puts c = search (room_left, room_right, puts_then, path_most, puts_same, rules)

pub returns-clause-upper_bound : goal.returns-clause-upper_bound
unfolding path_of
returns-clause-upper_bound c = search (room_left, room_right, puts_then, path_most, puts_same, rules)
