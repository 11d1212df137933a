use Rattle.common.proofs.Choose.{cases}
use Rattle.common.proofs.Said.{trying, said_again}
use Rattle.data_cell.specs.Cells.{own_at}
use Rattle.data_cell.proofs.cells.read_own.Goals as goal

pub returns-in_err-local : goal.returns-in_err-local
unfolding own_at
returns-in_err-local c = said_again _ _ _ c.from_residual.ensures (search (trying, cases) depth 12)

pub returns-in_err-ttl : goal.returns-in_err-ttl
unfolding own_at
returns-in_err-ttl c = said_again _ _ _ c.from_residual-in_err-ttl.ensures (search (trying, cases) depth 12)

pub returns : goal.returns
unfolding own_at
returns c = search (trying, cases) depth 12
