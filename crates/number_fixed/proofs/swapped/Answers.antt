use Rattle.number_fixed.specs.BigEndian.{swap_eight}
use Rattle.number_fixed.proofs.Swaps.{swap_scaled, swap_sum}
use borrow.Author.Rules.{rules}
use Rattle.number_fixed.proofs.swapped.Goals as goal

pub overflow_mul-result : goal.overflow_mul-result
overflow_mul-result c = search (swap_scaled, swap_sum, rules)

pub overflow_add-result : goal.overflow_add-result
overflow_add-result c = search (swap_scaled, swap_sum, rules)

pub returns : goal.returns
unfolding swap_eight
returns c = cc
