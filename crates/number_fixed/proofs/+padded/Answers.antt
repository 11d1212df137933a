use Rattle.std.proofs.Common.{arith, rules}
use Rattle.number_fixed.proofs.Swaps.{padding, padded_scaled, padded_sum}
use Rattle.number_fixed.proofs.+padded.Goals as goal

pub returns-then-k-lt1 : goal.returns-then-k-lt1
returns-then-k-lt1 t c = search (padding, rules)

pub overflow_mul-result : goal.overflow_mul-result
overflow_mul-result t c =
    padded_scaled _ (λ k. (c.type_inv.s k).fits) _ _ _ c.padded-high.ensures (omega arith) (omega arith)

pub returns-then-s-at : goal.returns-then-s-at
returns-then-s-at t c = search (padding, rules)

pub overflow_mul-result-2 : goal.overflow_mul-result-2
overflow_mul-result-2 t c =
    padded_scaled _ (λ k. (c.type_inv.s k).fits) _ _ _ c.padded-high.ensures (omega arith) (omega arith)

pub overflow_add-result : goal.overflow_add-result
overflow_add-result t c =
    padded_sum _ (λ k. (c.type_inv.s k).fits) _ _ _ c.padded-high.ensures (omega arith) (omega arith) _ c.byte_at-b.ensures.1

pub returns : goal.returns
returns t c = search (padding, rules)
