use Rattle.number_fixed.proofs.Swaps.{eight_first, eight_second, eight_puts}
use borrow.Author.Rules.{rules}
use Rattle.number_fixed.proofs.put_eight.Goals as goal

pub put_low-a-requires : goal.put_low-a-requires
put_low-a-requires c = search (eight_first, rules)

pub put_low-requires : goal.put_low-requires
put_low-requires c = search (eight_first, eight_second, eight_puts, rules)

pub returns : goal.returns
returns c = search (eight_puts, rules)
