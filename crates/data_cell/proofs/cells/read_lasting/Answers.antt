use Rattle.common.proofs.Choose.{cases, told}
use Rattle.common.proofs.Said.{reading}
use Rattle.data_cell.specs.Cells.{lasting_at}
use Rattle.data_cell.proofs.cells.read_lasting.Goals as goal

pub returns-then-f-eq1-2 : goal.returns-then-f-eq1-2
unfolding lasting_at
returns-then-f-eq1-2 c = search (reading, told, cases) depth 12

pub returns-then-f-eq1 : goal.returns-then-f-eq1
unfolding lasting_at
returns-then-f-eq1 c = search (reading, told, cases) depth 12

pub returns : goal.returns
unfolding lasting_at
returns c = search (reading, told, cases) depth 12
