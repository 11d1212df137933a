use Rattle.common.proofs.Choose.{cases}
use Rattle.data_cell.specs.Cells.{bad_flags}
use Rattle.data_cell.proofs.cells.bad_flags.Goals as goal

pub returns-then-f-gt31 : goal.returns-then-f-gt31
unfolding bad_flags
returns-then-f-gt31 c = search cases depth 12

pub returns-then-f-eq3 : goal.returns-then-f-eq3
unfolding bad_flags
returns-then-f-eq3 c = search cases depth 12

pub returns-then-f-eq1 : goal.returns-then-f-eq1
unfolding bad_flags
returns-then-f-eq1 c = search cases depth 12

pub returns-then-timed-f : goal.returns-then-timed-f
unfolding bad_flags
returns-then-timed-f c = search cases depth 12

pub returns-then-expires-f : goal.returns-then-expires-f
unfolding bad_flags
returns-then-expires-f c = search cases depth 12

pub returns : goal.returns
unfolding bad_flags
returns c = search cases depth 12
