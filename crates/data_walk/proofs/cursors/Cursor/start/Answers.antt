use Rattle.common.proofs.Choose.{cases}
use Rattle.data_walk.specs.Walks.{start}
use Rattle.data_walk.proofs.cursors.Cursor.start.Goals as goal

pub returns : goal.returns
unfolding start
returns c = search cases depth 12
