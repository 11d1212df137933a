use Rattle.common.proofs.Puts.{room_left, room_right, puts_then, puts_same}
use Rattle.print_line.specs.Lines.{times_of}
use borrow.Author.Rules.{rules}
use Rattle.print_line.proofs.line.put_times.Goals as goal

pub put_stamps-next-requires : goal.put_stamps-next-requires
unfolding times_of
put_stamps-next-requires c = search (room_left, room_right, puts_then, puts_same, rules)

pub put_pair-requires : goal.put_pair-requires
unfolding times_of
put_pair-requires c = search (room_left, room_right, puts_then, puts_same, rules)

pub returns : goal.returns
unfolding times_of
returns c = search (room_left, room_right, puts_then, puts_same, rules)
