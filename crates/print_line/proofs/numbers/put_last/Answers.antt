use Rattle.common.proofs.Puts.{room_left, room_right, puts_then, puts_same}
use Rattle.print_line.specs.Lines.{ended}
use borrow.Author.Rules.{rules}
use Rattle.print_line.proofs.numbers.put_last.Goals as goal

pub put_decimal-next-requires : goal.put_decimal-next-requires
unfolding ended
put_decimal-next-requires c = search (room_left, room_right, puts_then, puts_same, rules)

pub put_byte-requires : goal.put_byte-requires
unfolding ended
put_byte-requires c = search (room_left, room_right, puts_then, puts_same, rules)

pub returns : goal.returns
unfolding ended
returns c = search (room_left, room_right, puts_then, puts_same, rules)
