use Rattle.common.proofs.Choose.{cases}
use Rattle.data_row.specs.Flags.{bad_row_flags}
use Rattle.data_row.proofs.flags.bad_row_flags.Goals as goal

pub returns-then-f-gt0 : goal.returns-then-f-gt0
unfolding bad_row_flags
returns-then-f-gt0 c = search cases depth 12

pub returns-then-f-eq2 : goal.returns-then-f-eq2
unfolding bad_row_flags
returns-then-f-eq2 c = search cases depth 12

pub returns : goal.returns
unfolding bad_row_flags
returns c = search cases depth 12
