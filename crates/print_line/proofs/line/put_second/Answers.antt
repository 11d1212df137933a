use Rattle.common.proofs.Puts.{room_left, room_right, puts_then, puts_same}
use Rattle.print_line.specs.Lines.{second_of}
use borrow.Author.Rules.{rules}
use Rattle.print_line.proofs.line.put_second.Goals as goal

pub put_signed_field-next-requires : goal.put_signed_field-next-requires
unfolding second_of
put_signed_field-next-requires c = search (room_left, room_right, puts_then, puts_same, rules)

pub put_field-requires : goal.put_field-requires
unfolding second_of
put_field-requires c = search (room_left, room_right, puts_then, puts_same, rules)

pub returns : goal.returns
unfolding second_of
returns c = search (room_left, room_right, puts_then, puts_same, rules)
