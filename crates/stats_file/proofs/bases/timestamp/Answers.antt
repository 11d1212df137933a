use Rattle.common.proofs.Choose.{cases}
use Rattle.common.proofs.Said.{trying, said_again}
use Rattle.stats_file.specs.Bases.{timestamp_at}
use Rattle.stats_file.proofs.Times.{biased_sum}
use Rattle.stats_file.proofs.bases.timestamp.Goals as goal

pub returns-in_err-value : goal.returns-in_err-value
unfolding timestamp_at
returns-in_err-value c = said_again _ _ _ c.from_residual.ensures (search (trying, cases) depth 12)

pub returns : goal.returns
unfolding timestamp_at
returns c = search (biased_sum, trying, cases) depth 12
