use Rattle.common.proofs.Choose.{cases, told}
use Rattle.common.proofs.Said.{reading}
use Rattle.data_row.specs.Bodies.{row_deletion_at}
use Rattle.data_row.proofs.bodies.read_row_deletion.Goals as goal

pub returns-then-f-eq1 : goal.returns-then-f-eq1
unfolding row_deletion_at
returns-then-f-eq1 c = search (reading, told, cases) depth 12

pub returns : goal.returns
unfolding row_deletion_at
returns c = search (reading, told, cases) depth 12
