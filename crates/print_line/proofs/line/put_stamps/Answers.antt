use Rattle.common.proofs.Puts.{room_left, room_right, puts_then, puts_same}
use Rattle.print_line.specs.Lines.{stamps_of}
use borrow.Author.Rules.{rules}
use Rattle.print_line.proofs.line.put_stamps.Goals as goal

pub put_signed_field-next-requires : goal.put_signed_field-next-requires
unfolding stamps_of
put_signed_field-next-requires c = search (room_left, room_right, puts_then, puts_same, rules)

pub put_signed_field-requires : goal.put_signed_field-requires
unfolding stamps_of
put_signed_field-requires c = search (room_left, room_right, puts_then, puts_same, rules)

pub returns : goal.returns
unfolding stamps_of
returns c = search (room_left, room_right, puts_then, puts_same, rules)
