use Rattle.common.proofs.Choose.{cases}
use Rattle.common.proofs.Said.{trying, said_again}
use Rattle.data_marker.specs.Kinds.{marker_flags_at}
use Rattle.data_marker.proofs.kinds.read_marker_flags.Goals as goal

pub returns-then-value-eq2 : goal.returns-then-value-eq2
unfolding marker_flags_at
returns-then-value-eq2 c = search (trying, cases) depth 12

pub returns-in_err-value : goal.returns-in_err-value
unfolding marker_flags_at
returns-in_err-value c = said_again _ _ _ c.from_residual.ensures (search (trying, cases) depth 12)

pub returns : goal.returns
unfolding marker_flags_at
returns c = search (trying, cases) depth 12
