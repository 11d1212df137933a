use Rattle.common.proofs.Choose.{cases, told}
use Rattle.data_walk.specs.Cursors.{behind_value}
use Rattle.data_walk.proofs.cursors.behind_value.Goals as goal

pub returns-then-hand : goal.returns-then-hand
unfolding behind_value
returns-then-hand c = search (told, cases) depth 12

pub returns-then-column-hand : goal.returns-then-column-hand
unfolding behind_value
returns-then-column-hand c = search (told, cases) depth 12

pub returns : goal.returns
unfolding behind_value
returns c = search (told, cases) depth 12
