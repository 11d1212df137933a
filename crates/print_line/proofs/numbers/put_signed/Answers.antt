use Rattle.common.proofs.Puts.{puts_same}
use Rattle.print_line.proofs.Puts.{room_minus, room_below, puts_below, room_above, puts_above}
use borrow.Author.Rules.{rules}
use Rattle.print_line.proofs.numbers.put_signed.Goals as goal

pub put_byte-next-requires : goal.put_byte-next-requires
put_byte-next-requires c = search (room_minus, room_below, puts_below, room_above, puts_above, puts_same, rules)

pub put_decimal-requires : goal.put_decimal-requires
put_decimal-requires c = search (room_minus, room_below, puts_below, room_above, puts_above, puts_same, rules)

pub returns-then-x-lt9223372036854775808 : goal.returns-then-x-lt9223372036854775808
returns-then-x-lt9223372036854775808 c = search (room_minus, room_below, puts_below, room_above, puts_above, puts_same, rules)

pub put_decimal-requires-2 : goal.put_decimal-requires-2
put_decimal-requires-2 c = search (room_minus, room_below, puts_below, room_above, puts_above, puts_same, rules)

pub returns : goal.returns
returns c = search (room_minus, room_below, puts_below, room_above, puts_above, puts_same, rules)
