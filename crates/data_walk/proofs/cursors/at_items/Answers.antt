use Rattle.common.proofs.Choose.{cases}
use Rattle.data_walk.specs.Cursors.{at_items}
use Rattle.data_walk.proofs.cursors.at_items.Goals as goal

pub returns : goal.returns
unfolding at_items
returns c = search cases depth 12
