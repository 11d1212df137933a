use Rattle.common.proofs.Choose.{cases}
use Rattle.common.proofs.Said.{trying, said_again}
use Rattle.scylla_file.specs.Components.{with_features}
use Rattle.scylla_file.proofs.component.with_features.Goals as goal

pub returns-in_err-bits : goal.returns-in_err-bits
unfolding with_features
returns-in_err-bits c = said_again _ _ _ c.from_residual.ensures (search (trying, cases) depth 12)

pub returns : goal.returns
unfolding with_features
returns c = search (trying, cases) depth 12
