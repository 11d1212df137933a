use Rattle.common.proofs.Choose.{cases, told}
use Rattle.common.proofs.Said.{reading}
use Rattle.data_marker.specs.Markers.{open_after}
use Rattle.data_marker.proofs.markers.open_after.Goals as goal

pub returns-then-is_start : goal.returns-then-is_start
unfolding open_after
returns-then-is_start c = search (reading, told, cases) depth 12

pub returns : goal.returns
unfolding open_after
returns c = search (reading, told, cases) depth 12
