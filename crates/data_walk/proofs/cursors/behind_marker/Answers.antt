use Rattle.common.proofs.Choose.{cases, told}
use Rattle.data_walk.specs.Cursors.{behind_marker}
use Rattle.data_walk.proofs.cursors.behind_marker.Goals as goal

pub returns-then-m-eq0 : goal.returns-then-m-eq0
unfolding behind_marker
returns-then-m-eq0 c = search (told, cases) depth 12

pub returns : goal.returns
unfolding behind_marker
returns c = search (told, cases) depth 12
