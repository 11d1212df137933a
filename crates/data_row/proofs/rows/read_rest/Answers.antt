use Rattle.common.proofs.Choose.{cases}
use Rattle.common.proofs.Said.{trying, said_again}
use Rattle.data_row.specs.Rows.{rest_at}
use Rattle.data_row.proofs.rows.read_rest.Goals as goal

pub returns-in_err-prefix : goal.returns-in_err-prefix
unfolding rest_at
returns-in_err-prefix c = said_again _ _ _ c.from_residual.ensures (search (trying, cases) depth 12)

pub returns-in_err-body : goal.returns-in_err-body
unfolding rest_at
returns-in_err-body c = said_again _ _ _ c.from_residual-in_err-body.ensures (search (trying, cases) depth 12)

pub returns : goal.returns
unfolding rest_at
returns c = search (trying, cases) depth 12
