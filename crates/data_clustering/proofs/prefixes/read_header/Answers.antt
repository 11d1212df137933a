use Rattle.common.proofs.Choose.{cases, told}
use Rattle.common.proofs.Said.{trying, said_again}
use Rattle.data_clustering.specs.Prefixes.{header_at}
use Rattle.data_clustering.proofs.prefixes.read_header.Goals as goal

pub returns-then-k-eq0 : goal.returns-then-k-eq0
unfolding header_at
returns-then-k-eq0 c = search (trying, told, cases) depth 12

pub returns-then-bad_header : goal.returns-then-bad_header
unfolding header_at
returns-then-bad_header c = search (trying, told, cases) depth 12

pub returns-in_err-value : goal.returns-in_err-value
unfolding header_at
returns-in_err-value c = said_again _ _ _ c.from_residual.ensures (search (trying, told, cases) depth 12)

pub returns : goal.returns
unfolding header_at
returns c = search (trying, told, cases) depth 12
