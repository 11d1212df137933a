use Rattle.common.proofs.Puts.{room_left, room_right, puts_then, puts_same}
use Rattle.print_line.specs.Lines.{pair_of}
use borrow.Author.Rules.{rules}
use Rattle.print_line.proofs.numbers.put_pair.Goals as goal

pub put_field-next-requires : goal.put_field-next-requires
unfolding pair_of
put_field-next-requires c = search (room_left, room_right, puts_then, puts_same, rules)

pub put_field-requires : goal.put_field-requires
unfolding pair_of
put_field-requires c = search (room_left, room_right, puts_then, puts_same, rules)

pub returns : goal.returns
unfolding pair_of
returns c = search (room_left, room_right, puts_then, puts_same, rules)
