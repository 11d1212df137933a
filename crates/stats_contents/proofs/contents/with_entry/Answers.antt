use Rattle.common.proofs.Choose.{cases}
use Rattle.stats_contents.specs.Contents.{with_entry}
use Rattle.stats_contents.proofs.contents.with_entry.Goals as goal

pub returns-then-t-eq0 : goal.returns-then-t-eq0
unfolding with_entry
returns-then-t-eq0 c = search cases depth 12

pub returns-then-t-eq1 : goal.returns-then-t-eq1
unfolding with_entry
returns-then-t-eq1 c = search cases depth 12

pub returns-then-t-eq2 : goal.returns-then-t-eq2
unfolding with_entry
returns-then-t-eq2 c = search cases depth 12

pub returns : goal.returns
unfolding with_entry
returns c = search cases depth 12
