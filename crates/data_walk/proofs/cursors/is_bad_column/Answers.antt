use Rattle.common.proofs.Choose.{cases, told}
use Rattle.data_walk.specs.Cursors.{bad_column}
use Rattle.data_walk.proofs.cursors.is_bad_column.Goals as goal

pub returns-then-count-column : goal.returns-then-count-column
unfolding bad_column
returns-then-count-column c = search (told, cases) depth 12

pub returns : goal.returns
unfolding bad_column
returns c = search (told, cases) depth 12
