use Rattle.common.proofs.Choose.{cases}
use Rattle.common.proofs.Said.{trying, said_again}
use Rattle.scylla_sharding.specs.Bounds.{flag_at}
use Rattle.scylla_sharding.proofs.bound.read_flag.Goals as goal

pub returns-in_err-value : goal.returns-in_err-value
unfolding flag_at
returns-in_err-value c = said_again _ _ _ c.from_residual.ensures (search (trying, cases) depth 12)

pub returns-then-value-gt1 : goal.returns-then-value-gt1
unfolding flag_at
returns-then-value-gt1 c = search (trying, cases) depth 12

pub returns : goal.returns
unfolding flag_at
returns c = search (trying, cases) depth 12
