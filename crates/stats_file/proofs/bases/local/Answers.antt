use Rattle.common.proofs.Choose.{cases}
use Rattle.common.proofs.Said.{trying, said_again}
use Rattle.stats_file.specs.Bases.{local_at}
use Rattle.stats_file.proofs.bases.local.Goals as goal

pub returns-then-sum-gt2147483647 : goal.returns-then-sum-gt2147483647
unfolding local_at
returns-then-sum-gt2147483647 c = search (trying, cases) depth 12

pub returns-in_err-value : goal.returns-in_err-value
unfolding local_at
returns-in_err-value c = said_again _ _ _ c.from_residual.ensures (search (trying, cases) depth 12)

pub returns : goal.returns
unfolding local_at
returns c = search (trying, cases) depth 12
