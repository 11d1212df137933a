use Rattle.common.proofs.Choose.{cases}
use Rattle.common.proofs.Said.{trying, said_again}
use Rattle.scylla_sharding.specs.Ranges.{range_after}
use Rattle.scylla_sharding.proofs.read_range.Goals as goal

pub returns-in_err-bound : goal.returns-in_err-bound
unfolding range_after
returns-in_err-bound c = said_again _ _ _ c.from_residual.ensures (search (trying, cases) depth 12)

pub returns : goal.returns
unfolding range_after
returns c = search (trying, cases) depth 12
