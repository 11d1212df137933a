use Rattle.common.proofs.Choose.{cases}
use Rattle.stats_contents.specs.Contents.{offset_of}
use Rattle.stats_contents.proofs.contents.offset_of.Goals as goal

pub returns-then-t-eq0 : goal.returns-then-t-eq0
unfolding offset_of
returns-then-t-eq0 c = search cases depth 12

pub returns-then-t-eq1 : goal.returns-then-t-eq1
unfolding offset_of
returns-then-t-eq1 c = search cases depth 12

pub returns-then-t-eq2 : goal.returns-then-t-eq2
unfolding offset_of
returns-then-t-eq2 c = search cases depth 12

pub returns : goal.returns
unfolding offset_of
returns c = search cases depth 12
