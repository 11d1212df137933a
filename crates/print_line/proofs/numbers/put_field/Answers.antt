use Rattle.common.proofs.Puts.{room_left, room_right, puts_then, puts_same}
use Rattle.print_line.specs.Lines.{spaced}
use borrow.Author.Rules.{rules}
use Rattle.print_line.proofs.numbers.put_field.Goals as goal

pub put_decimal-next-requires : goal.put_decimal-next-requires
unfolding spaced
put_decimal-next-requires c = search (room_left, room_right, puts_then, puts_same, rules)

pub put_byte-requires : goal.put_byte-requires
unfolding spaced
put_byte-requires c = search (room_left, room_right, puts_then, puts_same, rules)

pub returns : goal.returns
unfolding spaced
returns c = search (room_left, room_right, puts_then, puts_same, rules)
