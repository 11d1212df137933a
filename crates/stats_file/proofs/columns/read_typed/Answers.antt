use Rattle.common.proofs.Choose.{cases}
use Rattle.common.proofs.Said.{trying, said_again}
use Rattle.stats_file.proofs.Loops.{column_made}
use Rattle.stats_file.specs.Header.{typed_at}
use Rattle.stats_file.proofs.columns.read_typed.Goals as goal

pub returns-in_err-kind : goal.returns-in_err-kind
unfolding typed_at
returns-in_err-kind c = said_again _ _ _ c.from_residual.ensures (search (trying, cases) depth 12)

pub returns : goal.returns
unfolding typed_at
returns c = search (column_made, trying, cases) depth 12
