use Rattle.common.proofs.Puts.{room_left, room_right, puts_then, puts_same}
use Rattle.print_line.specs.Lines.{where_of}
use borrow.Author.Rules.{rules}
use Rattle.print_line.proofs.refusals.put_where.Goals as goal

pub put_slice-next-requires : goal.put_slice-next-requires
unfolding where_of
put_slice-next-requires c = search (room_left, room_right, puts_then, puts_same, rules)

pub put_last-requires : goal.put_last-requires
unfolding where_of
put_last-requires c = search (room_left, room_right, puts_then, puts_same, rules)

pub returns : goal.returns
unfolding where_of
returns c = search (room_left, room_right, puts_then, puts_same, rules)
