use Rattle.write_form.specs.Cells.{cell_flags}
use Rattle.write_cell.proofs.cells.cell_flags.Goals as goal

pub returns : goal.returns
unfolding cell_flags
returns c = cc
