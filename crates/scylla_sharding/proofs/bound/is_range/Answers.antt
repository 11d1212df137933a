use Rattle.common.proofs.Choose.{cases}
use Rattle.scylla_sharding.proofs.Answers.{given}
use Rattle.scylla_sharding.specs.Bounds.{is_range}
use Rattle.scylla_sharding.proofs.bound.is_range.Goals as goal

pub returns-then-l-r : goal.returns-then-l-r
unfolding is_range
returns-then-l-r c = search (given, cases) depth 12

pub returns-then-l-r-2 : goal.returns-then-l-r-2
unfolding is_range
returns-then-l-r-2 c = search (given, cases) depth 12

pub returns : goal.returns
unfolding is_range
returns c = search (given, cases) depth 12
