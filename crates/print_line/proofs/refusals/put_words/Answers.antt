use Rattle.common.proofs.Puts.{room_left, room_right, puts_then, puts_same}
use Rattle.print_line.specs.Lines.{words_of}
use borrow.Author.Rules.{rules}
use Rattle.print_line.proofs.refusals.put_words.Goals as goal

pub put_text-next-requires : goal.put_text-next-requires
unfolding words_of
put_text-next-requires c = search (room_left, room_right, puts_then, puts_same, rules)

pub put_field-requires : goal.put_field-requires
unfolding words_of
put_field-requires c = search (room_left, room_right, puts_then, puts_same, rules)

pub returns : goal.returns
unfolding words_of
returns c = search (room_left, room_right, puts_then, puts_same, rules)
