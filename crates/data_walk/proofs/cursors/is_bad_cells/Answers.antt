use Rattle.common.proofs.Choose.{cases, told}
use Rattle.data_walk.specs.Cursors.{bad_cells}
use Rattle.data_walk.proofs.cursors.is_bad_cells.Goals as goal

pub returns-then-is_outside : goal.returns-then-is_outside
unfolding bad_cells
returns-then-is_outside c = search (told, cases) depth 12

pub returns-then-n-hand : goal.returns-then-n-hand
unfolding bad_cells
returns-then-n-hand c = search (told, cases) depth 12

pub returns : goal.returns
unfolding bad_cells
returns c = search (told, cases) depth 12
