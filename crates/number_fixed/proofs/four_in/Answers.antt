use Rattle.number_fixed.proofs.Swaps.{four_read}
use Rattle.number_fixed.proofs.four_in.Goals as goal

pub returns : goal.returns
returns c = four_read _ (λ k. (c.type_inv.s k).fits) _ _ _ c.little_four-x.ensures c.swapped_four.ensures
