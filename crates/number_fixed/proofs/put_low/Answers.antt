use Rattle.number_fixed.proofs.Swaps.{four_puts, four_index, four_index_1, four_index_2, four_index_3}
use borrow.Author.Rules.{rules}
use Rattle.number_fixed.proofs.put_low.Goals as goal

pub bounds-d-at : goal.bounds-d-at
bounds-d-at c = search (four_index, four_index_1, four_index_2, four_index_3, rules)

pub bounds-d-at-2 : goal.bounds-d-at-2
bounds-d-at-2 c = search (four_index, four_index_1, four_index_2, four_index_3, rules)

pub bounds-d-at-3 : goal.bounds-d-at-3
bounds-d-at-3 c = search (four_index, four_index_1, four_index_2, four_index_3, rules)

pub bounds-d-at-4 : goal.bounds-d-at-4
bounds-d-at-4 c = search (four_index, four_index_1, four_index_2, four_index_3, rules)

pub returns : goal.returns
returns c = search (four_puts, rules)
