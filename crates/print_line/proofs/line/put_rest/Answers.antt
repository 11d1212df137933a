use Rattle.common.proofs.Puts.{room_left, room_right, puts_then, puts_same}
use Rattle.print_line.specs.Lines.{rest_of}
use borrow.Author.Rules.{rules}
use Rattle.print_line.proofs.line.put_rest.Goals as goal

pub put_second-next-requires : goal.put_second-next-requires
unfolding rest_of
put_second-next-requires c = search (room_left, room_right, puts_then, puts_same, rules)

pub put_place-requires : goal.put_place-requires
unfolding rest_of
put_place-requires c = search (room_left, room_right, puts_then, puts_same, rules)

pub returns : goal.returns
unfolding rest_of
returns c = search (room_left, room_right, puts_then, puts_same, rules)
