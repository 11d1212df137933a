use Rattle.common.proofs.Puts.{room_left, room_right, puts_then, puts_same}
use Rattle.print_line.specs.Lines.{more_of}
use borrow.Author.Rules.{rules}
use Rattle.print_line.proofs.line.put_more.Goals as goal

pub put_pair-next-requires : goal.put_pair-next-requires
unfolding more_of
put_pair-next-requires c = search (room_left, room_right, puts_then, puts_same, rules)

pub put_tail-requires : goal.put_tail-requires
unfolding more_of
put_tail-requires c = search (room_left, room_right, puts_then, puts_same, rules)

pub returns : goal.returns
unfolding more_of
returns c = search (room_left, room_right, puts_then, puts_same, rules)
