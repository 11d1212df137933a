use Rattle.number_fixed.proofs.Swaps.{one_index, one_puts}
use borrow.Author.Rules.{rules}
use Rattle.number_fixed.proofs.put_one.Goals as goal

pub bounds-d-at : goal.bounds-d-at
bounds-d-at c = search (one_index, one_puts, rules)

pub returns : goal.returns
returns c = search (one_puts, rules)
