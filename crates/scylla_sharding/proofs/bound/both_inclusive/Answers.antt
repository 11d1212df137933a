use Rattle.common.proofs.Choose.{cases}
use Rattle.scylla_sharding.specs.Bounds.{both_inclusive}
use Rattle.scylla_sharding.proofs.bound.both_inclusive.Goals as goal

pub returns-then-a-eq0 : goal.returns-then-a-eq0
unfolding both_inclusive
returns-then-a-eq0 c = search cases depth 12

pub returns : goal.returns
unfolding both_inclusive
returns c = search cases depth 12
