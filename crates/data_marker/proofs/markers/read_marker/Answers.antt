use Rattle.common.proofs.Choose.{cases}
use Rattle.common.proofs.Said.{trying, said_again}
use Rattle.data_marker.specs.Markers.{marker_at}
use Rattle.data_marker.proofs.markers.read_marker.Goals as goal

pub returns-in_err-next : goal.returns-in_err-next
unfolding marker_at
returns-in_err-next c = said_again _ _ _ c.from_residual.ensures (search (trying, cases) depth 12)

pub returns-in_err-kind : goal.returns-in_err-kind
unfolding marker_at
returns-in_err-kind c = said_again _ _ _ c.from_residual-in_err-kind.ensures (search (trying, cases) depth 12)

pub returns : goal.returns
unfolding marker_at
returns c = search (trying, cases) depth 12
