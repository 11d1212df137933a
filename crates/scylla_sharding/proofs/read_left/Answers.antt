use Rattle.common.proofs.Choose.{cases, told}
use Rattle.common.proofs.Said.{trying, said_again}
use Rattle.scylla_sharding.specs.Ranges.{left_at}
use Rattle.scylla_sharding.proofs.read_left.Goals as goal

pub returns-in_err-bound : goal.returns-in_err-bound
unfolding left_at
returns-in_err-bound c = said_again _ _ _ c.from_residual.ensures (search (trying, cases) depth 12)

pub returns-then-is_next : goal.returns-then-is_next
unfolding left_at
returns-then-is_next c = search (trying, told, cases) depth 12

pub returns : goal.returns
unfolding left_at
returns c = search (trying, told, cases) depth 12
