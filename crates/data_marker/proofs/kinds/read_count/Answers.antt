use Rattle.common.proofs.Choose.{cases}
use Rattle.common.proofs.Said.{trying, said_again}
use Rattle.data_marker.specs.Kinds.{count_at}
use Rattle.data_marker.proofs.kinds.read_count.Goals as goal

pub returns-then-k-value : goal.returns-then-k-value
unfolding count_at
returns-then-k-value c = search (trying, cases) depth 12

pub returns-in_err-value : goal.returns-in_err-value
unfolding count_at
returns-in_err-value c = said_again _ _ _ c.from_residual.ensures (search (trying, cases) depth 12)

pub returns : goal.returns
unfolding count_at
returns c = search (trying, cases) depth 12
