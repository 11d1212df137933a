use mathlib.Core.Path.{refl}
use Rattle.number_fixed.specs.BigEndian.{swap_four}
use Rattle.number_fixed.proofs.swapped_four.Goals as goal

pub returns : goal.returns
unfolding swap_four
returns c = refl
