use Rattle.common.proofs.Choose.{cases}
use Rattle.common.proofs.Said.{trying, said_again}
use Rattle.stats_file.specs.Bases.{bases_at}
use Rattle.stats_file.proofs.bases.read.Goals as goal

pub returns-in_err-timestamp : goal.returns-in_err-timestamp
unfolding bases_at
returns-in_err-timestamp c = said_again _ _ _ c.from_residual.ensures (search (trying, cases) depth 12)

pub returns-in_err-local : goal.returns-in_err-local
unfolding bases_at
returns-in_err-local c = said_again _ _ _ c.from_residual-in_err-local.ensures (search (trying, cases) depth 12)

pub returns-in_err-ttl : goal.returns-in_err-ttl
unfolding bases_at
returns-in_err-ttl c = said_again _ _ _ c.from_residual-in_err-ttl.ensures (search (trying, cases) depth 12)

pub returns : goal.returns
unfolding bases_at
returns c = search (trying, cases) depth 12
