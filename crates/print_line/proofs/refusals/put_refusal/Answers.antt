use Rattle.common.proofs.Puts.{puts_same}
use Rattle.print_line.proofs.Bounds.{room_words, room_where, puts_refusal, refusal_ends}
use borrow.Author.Rules.{rules}
use Rattle.print_line.proofs.refusals.put_refusal.Goals as goal

pub put_words-next-requires : goal.put_words-next-requires
put_words-next-requires c = search (room_words, room_where, puts_refusal, refusal_ends, puts_same, rules)

pub put_where-requires : goal.put_where-requires
put_where-requires c = search (room_words, room_where, puts_refusal, refusal_ends, puts_same, rules)

pub returns : goal.returns
returns c = search (room_words, room_where, puts_refusal, refusal_ends, puts_same, rules)
