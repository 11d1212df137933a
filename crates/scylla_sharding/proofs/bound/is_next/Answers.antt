use Rattle.common.proofs.Choose.{cases}
use Rattle.scylla_sharding.proofs.Answers.{given}
use Rattle.scylla_sharding.specs.Bounds.{is_next}
use Rattle.scylla_sharding.proofs.bound.is_next.Goals as goal

pub returns-then-r-l : goal.returns-then-r-l
unfolding is_next
returns-then-r-l c = search (given, cases) depth 12

pub returns-then-r-l-2 : goal.returns-then-r-l-2
unfolding is_next
returns-then-r-l-2 c = search (given, cases) depth 12

pub returns : goal.returns
unfolding is_next
returns c = search (given, cases) depth 12
