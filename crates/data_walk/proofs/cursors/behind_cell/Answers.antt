use Rattle.common.proofs.Choose.{cases}
use Rattle.data_walk.specs.Cursors.{behind_cell}
use Rattle.data_walk.proofs.cursors.behind_cell.Goals as goal

pub returns : goal.returns
unfolding behind_cell
returns c = search cases depth 12
