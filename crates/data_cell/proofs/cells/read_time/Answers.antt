use Rattle.common.proofs.Choose.{cases, told}
use Rattle.common.proofs.Said.{reading}
use Rattle.data_cell.specs.Cells.{time_at}
use Rattle.data_cell.proofs.cells.read_time.Goals as goal

pub returns-then-f-eq1 : goal.returns-then-f-eq1
unfolding time_at
returns-then-f-eq1 c = search (reading, told, cases) depth 12

pub returns : goal.returns
unfolding time_at
returns c = search (reading, told, cases) depth 12
