use Rattle.print_line.proofs.Puts.{room_text, room_space, puts_text}
use borrow.Author.Rules.{rules}
use Rattle.print_line.proofs.refusals.put_text.Goals as goal

pub put_part-next-requires : goal.put_part-next-requires
put_part-next-requires c = search (room_text, room_space, puts_text, rules)

pub put_byte-requires : goal.put_byte-requires
put_byte-requires c = search (room_text, room_space, puts_text, rules)

pub returns : goal.returns
returns c = search (room_text, room_space, puts_text, rules)
