use Rattle.common.proofs.Choose.{cases}
use Rattle.data_walk.specs.Cursors.{behind_row}
use Rattle.data_walk.proofs.cursors.behind_row.Goals as goal

pub returns : goal.returns
unfolding behind_row
returns c = search cases depth 12
