use Rattle.common.proofs.Choose.{cases}
use Rattle.data_walk.specs.Cursors.{at_cells}
use Rattle.data_walk.proofs.cursors.at_cells.Goals as goal

pub returns : goal.returns
unfolding at_cells
returns c = search cases depth 12
