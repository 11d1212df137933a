use Rattle.common.proofs.Choose.{cases}
use Rattle.common.proofs.Said.{trying, said_again}
use Rattle.stats_file.specs.Header.{count_at}
use Rattle.stats_file.proofs.columns.count.Goals as goal

pub returns-then-most_of-value : goal.returns-then-most_of-value
unfolding count_at
returns-then-most_of-value c = search (trying, cases) depth 12

pub returns-in_err-value : goal.returns-in_err-value
unfolding count_at
returns-in_err-value c = said_again _ _ _ c.from_residual.ensures (search (trying, cases) depth 12)

pub returns : goal.returns
unfolding count_at
returns c = search (trying, cases) depth 12
