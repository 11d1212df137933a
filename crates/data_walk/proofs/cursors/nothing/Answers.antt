use Rattle.common.proofs.Choose.{cases}
use Rattle.data_walk.specs.Cursors.{none}
use Rattle.data_walk.proofs.cursors.nothing.Goals as goal

pub returns : goal.returns
unfolding none
returns c = search cases depth 12
