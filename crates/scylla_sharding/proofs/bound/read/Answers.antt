use Rattle.common.proofs.Choose.{cases}
use Rattle.common.proofs.Said.{trying, said_again}
use Rattle.scylla_sharding.specs.Bounds.{bound_at}
use Rattle.scylla_sharding.proofs.bound.read.Goals as goal

pub returns-in_err-exclusive : goal.returns-in_err-exclusive
unfolding bound_at
returns-in_err-exclusive c = said_again _ _ _ c.from_residual.ensures (search (trying, cases) depth 12)

pub returns-in_err-token : goal.returns-in_err-token
unfolding bound_at
returns-in_err-token c = said_again _ _ _ c.from_residual-in_err-token.ensures (search (trying, cases) depth 12)

pub returns : goal.returns
unfolding bound_at
returns c = search (trying, cases) depth 12
