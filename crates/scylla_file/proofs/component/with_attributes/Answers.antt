use Rattle.common.proofs.Choose.{cases}
use Rattle.common.proofs.Said.{trying, said_again, places}
use Rattle.scylla_file.specs.Components.{with_attributes}
use Rattle.scylla_file.proofs.component.with_attributes.Goals as goal

pub returns-in_err-next : goal.returns-in_err-next
unfolding with_attributes
returns-in_err-next c = said_again _ _ _ c.from_residual.ensures (search (places, cases) depth 12)

pub returns : goal.returns
unfolding with_attributes
returns c = search (places, trying, cases) depth 12
