use mathlib.Core.Path.{◌∙◌}
use Rattle.number_fixed.proofs.Swaps.{little_scaled, little_sum, eight_read}
use Rattle.number_fixed.proofs.eight_in.Goals as goal

pub overflow_mul-high : goal.overflow_mul-high
overflow_mul-high c = little_scaled _ (λ k. (c.type_inv.s k).fits) _ _ c.little_four-high.ensures

pub overflow_add-low : goal.overflow_add-low
overflow_add-low c = little_sum _ (λ k. (c.type_inv.s k).fits) _ _ _ _ c.little_four-low.ensures c.little_four-high.ensures

pub returns : goal.returns
returns c = c.swapped.ensures ∙ eight_read _ (λ k. (c.type_inv.s k).fits) _ _ _ c.little_four-low.ensures c.little_four-high.ensures
