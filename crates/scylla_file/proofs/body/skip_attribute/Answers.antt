use Rattle.common.proofs.Choose.{cases}
use Rattle.common.proofs.Said.{places, place_again}
use Rattle.scylla_file.specs.Bodies.{attribute_at}
use Rattle.scylla_file.proofs.body.skip_attribute.Goals as goal

pub returns-in_err-next : goal.returns-in_err-next
unfolding attribute_at
returns-in_err-next c = place_again _ _ _ c.from_residual.ensures (search (places, cases) depth 12)

pub returns : goal.returns
unfolding attribute_at
returns c = search (places, cases) depth 12
