use Rattle.common.proofs.Choose.{cases}
use Rattle.common.proofs.Said.{trying, said_again}
use Rattle.scylla_file.specs.Bodies.{features_at}
use Rattle.scylla_file.proofs.body.read_features.Goals as goal

pub returns-in_err-bits : goal.returns-in_err-bits
unfolding features_at
returns-in_err-bits c = said_again _ _ _ c.from_residual.ensures (search (trying, cases) depth 12)

pub returns-then-next-end : goal.returns-then-next-end
unfolding features_at
returns-then-next-end c = search (trying, cases) depth 12

pub returns : goal.returns
unfolding features_at
returns c = search (trying, cases) depth 12
