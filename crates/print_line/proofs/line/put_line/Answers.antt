use Rattle.common.proofs.Puts.{puts_same}
use Rattle.print_line.proofs.Bounds.{room_first, room_more, puts_line, ends_by}
use borrow.Author.Rules.{rules}
use Rattle.print_line.proofs.line.put_line.Goals as goal

pub put_pair-next-requires : goal.put_pair-next-requires
put_pair-next-requires c = search (room_first, room_more, puts_line, ends_by, puts_same, rules)

pub put_more-requires : goal.put_more-requires
put_more-requires c = search (room_first, room_more, puts_line, ends_by, puts_same, rules)

pub returns : goal.returns
returns c = search (room_first, room_more, puts_line, ends_by, puts_same, rules)
