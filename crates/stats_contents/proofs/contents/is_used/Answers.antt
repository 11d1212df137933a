use Rattle.common.proofs.Choose.{cases}
use Rattle.stats_contents.specs.Contents.{used}
use Rattle.stats_contents.proofs.contents.is_used.Goals as goal

pub returns-then-c-o : goal.returns-then-c-o
unfolding used
returns-then-c-o c = search cases depth 12

pub returns-then-c-o-2 : goal.returns-then-c-o-2
unfolding used
returns-then-c-o-2 c = search cases depth 12

pub returns-then-c-o-3 : goal.returns-then-c-o-3
unfolding used
returns-then-c-o-3 c = search cases depth 12

pub returns : goal.returns
unfolding used
returns c = search cases depth 12
