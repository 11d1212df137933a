use Rattle.number_fixed.specs.BigEndian.{little_four}
use Rattle.number_fixed.proofs.little_four.Goals as goal

pub returns : goal.returns
unfolding little_four
returns c = cc
