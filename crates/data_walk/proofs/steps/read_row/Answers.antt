use Rattle.common.proofs.Choose.{cases}
use Rattle.common.proofs.Said.{trying}
use Rattle.data_walk.proofs.Said.{moves, moved_again}
use Rattle.data_walk.specs.Steps.{row_step}
use Rattle.data_walk.proofs.steps.read_row.Goals as goal

pub returns-in_err-row : goal.returns-in_err-row
unfolding row_step
returns-in_err-row c = moved_again _ _ _ c.from_residual.ensures (search (trying, moves, cases) depth 12)

pub returns : goal.returns
unfolding row_step
returns c = search (trying, moves, cases) depth 12
