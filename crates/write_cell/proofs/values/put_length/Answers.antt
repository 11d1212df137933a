use Rattle.common.proofs.Choose.{cases}
use Rattle.common.proofs.Puts.{puts}
use Rattle.write_form.specs.Cells.{length_bytes}
use Rattle.write_number.proofs.Writing.{writing}
use Rattle.write_cell.proofs.values.put_length.Goals as goal

pub returns-then-width-ne255 : goal.returns-then-width-ne255
unfolding length_bytes
returns-then-width-ne255 c = search (writing, puts, cases) depth 12

pub put_in-requires : goal.put_in-requires
unfolding length_bytes
put_in-requires c = search (writing, puts, cases) depth 12

pub returns : goal.returns
unfolding length_bytes
returns c = search (writing, puts, cases) depth 12
