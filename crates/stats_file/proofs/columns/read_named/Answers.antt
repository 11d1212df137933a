use Rattle.common.proofs.Choose.{cases}
use Rattle.common.proofs.Said.{trying, said_again}
use Rattle.stats_file.proofs.Loops.{column_made}
use Rattle.stats_file.specs.Header.{named_at}
use Rattle.stats_file.proofs.columns.read_named.Goals as goal

pub returns-in_err-name : goal.returns-in_err-name
unfolding named_at
returns-in_err-name c = said_again _ _ _ c.from_residual.ensures (search (trying, cases) depth 12)

pub returns-in_err-kind : goal.returns-in_err-kind
unfolding named_at
returns-in_err-kind c = said_again _ _ _ c.from_residual-in_err-kind.ensures (search (trying, cases) depth 12)

pub returns : goal.returns
unfolding named_at
returns c = search (column_made, trying, cases) depth 12
