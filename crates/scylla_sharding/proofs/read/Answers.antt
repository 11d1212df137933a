use Rattle.common.proofs.Choose.{cases}
use Rattle.common.proofs.Said.{trying, places, place_again}
use Rattle.scylla_sharding.proofs.RightBounds.{by_right_bounds}
use Rattle.scylla_sharding.proofs.read.Goals as goal

pub returns-in_err-count : goal.returns-in_err-count
returns-in_err-count c = place_again _ _ _ c.from_residual.ensures (search (by_right_bounds, places, trying, cases) depth 12)

pub returns-in_err-next : goal.returns-in_err-next
returns-in_err-next c = place_again _ _ _ c.from_residual-in_err-next.ensures (search (by_right_bounds, places, trying, cases) depth 12)

pub returns-then-next-end : goal.returns-then-next-end
returns-then-next-end c = search (by_right_bounds, places, trying, cases) depth 12

pub returns : goal.returns
returns c = search (by_right_bounds, places, trying, cases) depth 12
