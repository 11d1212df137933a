use Rattle.common.proofs.Choose.{cases, told}
use Rattle.common.proofs.Said.{reading}
use Rattle.data_marker.specs.Markers.{second_at}
use Rattle.data_marker.proofs.markers.read_second.Goals as goal

pub returns-then-is_boundary : goal.returns-then-is_boundary
unfolding second_at
returns-then-is_boundary c = search (reading, told, cases) depth 12

pub returns : goal.returns
unfolding second_at
returns c = search (reading, told, cases) depth 12
