use Rattle.common.specs.Times.{biased}
use Rattle.std.proofs.Common.{rules}
use Rattle.common.proofs.times.biased_of.Goals as goal

pub returns : goal.returns
unfolding biased
returns c = search rules
