use Rattle.common.proofs.Choose.{cases, told}
use Rattle.common.proofs.Said.{reading}
use Rattle.data_field.proofs.fields.read_fixed.Goals as goal

pub returns-then-end-at : goal.returns-then-end-at
returns-then-end-at c = search (reading, told, cases) depth 12

pub returns-then-end-at-2 : goal.returns-then-end-at-2
returns-then-end-at-2 c = search (reading, told, cases) depth 12

pub returns : goal.returns
returns c = search (reading, told, cases) depth 12
