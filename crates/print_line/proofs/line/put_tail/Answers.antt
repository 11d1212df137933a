use Rattle.common.proofs.Puts.{room_left, room_right, puts_then, puts_same}
use Rattle.print_line.specs.Lines.{tail_of}
use borrow.Author.Rules.{rules}
use Rattle.print_line.proofs.line.put_tail.Goals as goal

pub put_times-next-requires : goal.put_times-next-requires
unfolding tail_of
put_times-next-requires c = search (room_left, room_right, puts_then, puts_same, rules)

pub put_rest-requires : goal.put_rest-requires
unfolding tail_of
put_rest-requires c = search (room_left, room_right, puts_then, puts_same, rules)

pub returns : goal.returns
unfolding tail_of
returns c = search (room_left, room_right, puts_then, puts_same, rules)
