use Rattle.common.proofs.Choose.{cases}
use Rattle.common.proofs.Said.{trying, places, place_again}
use Rattle.scylla_file.specs.Bodies.{attributes_at}
use Rattle.scylla_file.proofs.body.skip_attributes.Goals as goal

pub returns-in_err-count : goal.returns-in_err-count
unfolding attributes_at
returns-in_err-count c = place_again _ _ _ c.from_residual.ensures (search (places, trying, cases) depth 12)

pub returns-in_err-next : goal.returns-in_err-next
unfolding attributes_at
returns-in_err-next c = place_again _ _ _ c.from_residual-in_err-next.ensures (search (places, trying, cases) depth 12)

pub returns-then-next-end : goal.returns-then-next-end
unfolding attributes_at
returns-then-next-end c = search (places, trying, cases) depth 12

pub returns : goal.returns
unfolding attributes_at
returns c = search (places, trying, cases) depth 12
