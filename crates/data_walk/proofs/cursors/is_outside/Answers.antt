use Rattle.common.proofs.Choose.{cases, told}
use Rattle.data_walk.specs.Cursors.{outside}
use Rattle.data_walk.proofs.cursors.is_outside.Goals as goal

pub returns-then-len-stop : goal.returns-then-len-stop
unfolding outside
returns-then-len-stop c = search (told, cases) depth 12

pub returns : goal.returns
unfolding outside
returns c = search (told, cases) depth 12
