use Rattle.common.proofs.Choose.{cases, told}
use Rattle.data_walk.specs.Cursors.{bad_prefix}
use Rattle.data_walk.proofs.cursors.is_bad_prefix.Goals as goal

pub returns-then-is_outside : goal.returns-then-is_outside
unfolding bad_prefix
returns-then-is_outside c = search (told, cases) depth 12

pub returns-then-k-hand : goal.returns-then-k-hand
unfolding bad_prefix
returns-then-k-hand c = search (told, cases) depth 12

pub returns : goal.returns
unfolding bad_prefix
returns c = search (told, cases) depth 12
