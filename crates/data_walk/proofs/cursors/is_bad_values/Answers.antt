use Rattle.common.proofs.Choose.{cases, told}
use Rattle.data_walk.specs.Cursors.{bad_values}
use Rattle.data_walk.proofs.cursors.is_bad_values.Goals as goal

pub returns-then-is_outside : goal.returns-then-is_outside
unfolding bad_values
returns-then-is_outside c = search (told, cases) depth 12

pub returns-then-len-hand : goal.returns-then-len-hand
unfolding bad_values
returns-then-len-hand c = search (told, cases) depth 12

pub returns-then-all_columns-hand : goal.returns-then-all_columns-hand
unfolding bad_values
returns-then-all_columns-hand c = search (told, cases) depth 12

pub returns-then-hand-k : goal.returns-then-hand-k
unfolding bad_values
returns-then-hand-k c = search (told, cases) depth 12

pub returns : goal.returns
unfolding bad_values
returns c = search (told, cases) depth 12
