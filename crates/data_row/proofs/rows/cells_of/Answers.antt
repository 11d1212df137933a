use Rattle.common.proofs.Choose.{cases}
use Rattle.data_row.specs.Rows.{cells_in}
use Rattle.data_row.proofs.rows.cells_of.Goals as goal

pub returns-then-x-eq1 : goal.returns-then-x-eq1
unfolding cells_in
returns-then-x-eq1 c = search (cases) depth 12

pub returns : goal.returns
unfolding cells_in
returns c = search (cases) depth 12
