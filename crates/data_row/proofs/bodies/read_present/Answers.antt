use Rattle.common.proofs.Choose.{cases, told}
use Rattle.common.proofs.Said.{trying, said_again}
use Rattle.data_row.specs.Bodies.{present_at}
use Rattle.data_row.proofs.bodies.read_present.Goals as goal

pub returns-then-f-eq1 : goal.returns-then-f-eq1
unfolding present_at
returns-then-f-eq1 c = search (trying, told, cases) depth 12

pub returns-then-all-value : goal.returns-then-all-value
unfolding present_at
returns-then-all-value c = search (trying, told, cases) depth 12 fits 8000

pub returns-in_err-value : goal.returns-in_err-value
unfolding present_at
returns-in_err-value c = said_again _ _ _ c.from_residual.ensures (search (trying, told, cases) depth 12)

pub returns : goal.returns
unfolding present_at
returns c = search (trying, cases) depth 12
