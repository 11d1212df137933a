use Rattle.common.proofs.Choose.{cases, told}
use Rattle.common.proofs.Said.{trying, said_again}
use Rattle.data_row.specs.Bodies.{liveness_at}
use Rattle.data_row.proofs.bodies.read_liveness.Goals as goal

pub returns-then-f-eq1-2 : goal.returns-then-f-eq1-2
unfolding liveness_at
returns-then-f-eq1-2 c = search (trying, told, cases) depth 12

pub returns : goal.returns
unfolding liveness_at
returns c = search (trying, told, cases) depth 12

pub returns-in_err-value : goal.returns-in_err-value
unfolding liveness_at
returns-in_err-value c = said_again _ _ _ c.from_residual.ensures (search (trying, told, cases) depth 12)

pub returns-then-f-eq1 : goal.returns-then-f-eq1
unfolding liveness_at
returns-then-f-eq1 c = search (trying, told, cases) depth 12
