use Rattle.common.proofs.Puts.{room_left, room_right, puts_then, puts_same}
use Rattle.print_line.specs.Lines.{place_of}
use borrow.Author.Rules.{rules}
use Rattle.print_line.proofs.line.put_place.Goals as goal

pub put_field-next-requires : goal.put_field-next-requires
unfolding place_of
put_field-next-requires c = search (room_left, room_right, puts_then, puts_same, rules)

pub put_last-requires : goal.put_last-requires
unfolding place_of
put_last-requires c = search (room_left, room_right, puts_then, puts_same, rules)

pub returns : goal.returns
unfolding place_of
returns c = search (room_left, room_right, puts_then, puts_same, rules)
