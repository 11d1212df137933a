use Rattle.std.proofs.Common.{rules}
use Rattle.common.proofs.Puts.{puts_same}
use Rattle.print_line.proofs.Puts.{room_one, puts_one, room_most, room_last, puts_more}
use Rattle.print_line.proofs.numbers.+put_decimal.Goals as goal

pub put_digit-requires : goal.put_digit-requires
put_digit-requires t c = search (room_one, puts_one, room_most, room_last, puts_more, puts_same, rules)

pub shape_of-d-then-n-lt10 : goal.shape_of-d-then-n-lt10
shape_of-d-then-n-lt10 t c = search (room_one, puts_one, room_most, room_last, puts_more, puts_same, rules)

pub returns-then-n-lt10 : goal.returns-then-n-lt10
returns-then-n-lt10 t c = search (room_one, puts_one, room_most, room_last, puts_more, puts_same, rules)

pub put_decimal-next-requires : goal.put_decimal-next-requires
put_decimal-next-requires t c = search (room_one, puts_one, room_most, room_last, puts_more, puts_same, rules)

pub put_digit-requires-2 : goal.put_digit-requires-2
put_digit-requires-2 t c = search (room_one, puts_one, room_most, room_last, puts_more, puts_same, rules)

pub shape_of-d : goal.shape_of-d
shape_of-d t c = search (room_one, puts_one, room_most, room_last, puts_more, puts_same, rules)

pub returns : goal.returns
returns t c = search (room_one, puts_one, room_most, room_last, puts_more, puts_same, rules)
