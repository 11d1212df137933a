use Rattle.common.proofs.Choose.{cases}
use Rattle.common.proofs.Said.{trying}
use Rattle.data_walk.proofs.Said.{moves, moved_again}
use Rattle.data_walk.specs.Steps.{marker_step}
use Rattle.data_walk.proofs.steps.read_marker.Goals as goal

pub returns-in_err-marker : goal.returns-in_err-marker
unfolding marker_step
returns-in_err-marker c = moved_again _ _ _ c.from_residual.ensures (search (trying, moves, cases) depth 12)

pub returns : goal.returns
unfolding marker_step
returns c = search (trying, moves, cases) depth 12
