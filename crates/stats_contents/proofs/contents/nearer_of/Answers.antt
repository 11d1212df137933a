use Rattle.common.proofs.Choose.{cases}
use Rattle.stats_contents.specs.Contents.{nearer}
use Rattle.stats_contents.proofs.contents.nearer_of.Goals as goal

pub returns-then-x-best : goal.returns-then-x-best
unfolding nearer
returns-then-x-best c = search cases depth 12

pub returns-else-x-best : goal.returns-else-x-best
unfolding nearer
returns-else-x-best c = search cases depth 12

pub returns-else-o-x : goal.returns-else-o-x
unfolding nearer
returns-else-o-x c = search cases depth 12
