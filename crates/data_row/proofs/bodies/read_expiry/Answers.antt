use Rattle.common.proofs.Choose.{cases}
use Rattle.common.proofs.Said.{trying, said_again}
use Rattle.data_row.specs.Bodies.{expiry_at}
use Rattle.data_row.proofs.bodies.read_expiry.Goals as goal

pub returns-in_err-ttl : goal.returns-in_err-ttl
unfolding expiry_at
returns-in_err-ttl c = said_again _ _ _ c.from_residual.ensures (search (trying, cases) depth 12)

pub returns-in_err-local : goal.returns-in_err-local
unfolding expiry_at
returns-in_err-local c = said_again _ _ _ c.from_residual-in_err-local.ensures (search (trying, cases) depth 12)

pub returns : goal.returns
unfolding expiry_at
returns c = search (trying, cases) depth 12
