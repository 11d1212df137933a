use Rattle.common.proofs.Choose.{cases}
use Rattle.common.proofs.Puts.{puts}
use Rattle.write_form.specs.Cells.{timestamp_bytes}
use Rattle.write_number.proofs.Writing.{writing}
use Rattle.write_cell.proofs.cells.put_timestamp.Goals as goal

pub returns-then-same_time-eq1 : goal.returns-then-same_time-eq1
unfolding timestamp_bytes
returns-then-same_time-eq1 c = search (writing, puts, cases) depth 12

pub put_delta-requires : goal.put_delta-requires
unfolding timestamp_bytes
put_delta-requires c = search (writing, puts, cases) depth 12

pub returns : goal.returns
unfolding timestamp_bytes
returns c = search (writing, puts, cases) depth 12
