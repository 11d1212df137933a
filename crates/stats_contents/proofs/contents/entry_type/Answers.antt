use Rattle.common.proofs.Choose.{cases}
use Rattle.common.proofs.Said.{trying, said_again}
use Rattle.stats_contents.specs.Contents.{entry_type_at}
use Rattle.stats_contents.proofs.contents.entry_type.Goals as goal

pub returns-then-value-gt3 : goal.returns-then-value-gt3
unfolding entry_type_at
returns-then-value-gt3 c = search (trying, cases) depth 12

pub returns-then-offset_of-eq0 : goal.returns-then-offset_of-eq0
unfolding entry_type_at
returns-then-offset_of-eq0 c = search (trying, cases) depth 12

pub returns-in_err-value : goal.returns-in_err-value
unfolding entry_type_at
returns-in_err-value c = said_again _ _ _ c.from_residual.ensures (search (trying, cases) depth 12)

pub returns : goal.returns
unfolding entry_type_at
returns c = search (trying, cases) depth 12
