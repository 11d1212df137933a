use Rattle.common.proofs.Choose.{cases}
use Rattle.common.proofs.Said.{trying, said_again}
use Rattle.data_marker.specs.Markers.{body_at}
use Rattle.data_marker.proofs.markers.read_body.Goals as goal

pub returns-in_err-value : goal.returns-in_err-value
unfolding body_at
returns-in_err-value c = said_again _ _ _ c.from_residual.ensures (search (trying, cases) depth 12)

pub returns : goal.returns
unfolding body_at
returns c = search (trying, cases) depth 12
