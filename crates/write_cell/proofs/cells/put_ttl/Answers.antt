use Rattle.common.proofs.Choose.{cases}
use Rattle.common.proofs.Puts.{puts}
use Rattle.write_form.specs.Cells.{ttl_bytes}
use Rattle.write_number.proofs.Writing.{writing}
use Rattle.write_cell.proofs.cells.put_ttl.Goals as goal

pub put_delta-requires : goal.put_delta-requires
unfolding ttl_bytes
put_delta-requires c = search (writing, puts, cases) depth 12

pub returns-then-cell-eq1 : goal.returns-then-cell-eq1
unfolding ttl_bytes
returns-then-cell-eq1 c = search (writing, puts, cases) depth 12

pub returns : goal.returns
unfolding ttl_bytes
returns c = search (writing, puts, cases) depth 12
