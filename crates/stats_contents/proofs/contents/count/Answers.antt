use Rattle.common.proofs.Choose.{cases}
use Rattle.common.proofs.Said.{trying, said_again}
use Rattle.stats_contents.specs.Contents.{count_at}
use Rattle.stats_contents.proofs.contents.count.Goals as goal

pub returns-then-value-gt2147483647 : goal.returns-then-value-gt2147483647
unfolding count_at
returns-then-value-gt2147483647 c = search (trying, cases) depth 12

pub returns-then-value-gt4 : goal.returns-then-value-gt4
unfolding count_at
returns-then-value-gt4 c = search (trying, cases) depth 12

pub returns-in_err-value : goal.returns-in_err-value
unfolding count_at
returns-in_err-value c = said_again _ _ _ c.from_residual.ensures (search (trying, cases) depth 12)

pub returns : goal.returns
unfolding count_at
returns c = search (trying, cases) depth 12
