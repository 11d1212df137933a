use Rattle.common.proofs.Choose.{cases, told}
use Rattle.common.proofs.Said.{trying, said_again}
use Rattle.data_marker.specs.Markers.{first_at}
use Rattle.data_marker.proofs.markers.read_first.Goals as goal

pub returns-then-is_start : goal.returns-then-is_start
unfolding first_at
returns-then-is_start c = search (trying, told, cases) depth 12

pub returns-then-is_same_deletion : goal.returns-then-is_same_deletion
unfolding first_at
returns-then-is_same_deletion c = search (trying, told, cases) depth 12

pub returns-in_err-deletion : goal.returns-in_err-deletion
unfolding first_at
returns-in_err-deletion c = said_again _ _ _ c.from_residual.ensures (search (trying, cases) depth 12)

pub returns : goal.returns
unfolding first_at
returns c = search (trying, told, cases) depth 12
