use Rattle.common.proofs.Choose.{cases}
use Rattle.common.proofs.Said.{reading}
use Rattle.scylla_file.specs.Components.{body_at}
use Rattle.scylla_file.proofs.component.read_body.Goals as goal

pub returns-in-1 : goal.returns-in-1
unfolding body_at
returns-in-1 c = search cases depth 12

pub returns-in-2 : goal.returns-in-2
unfolding body_at
returns-in-2 c = search cases depth 12

pub returns-in-3 : goal.returns-in-3
unfolding body_at
returns-in-3 c = search cases depth 12

pub returns-in-4 : goal.returns-in-4
unfolding body_at
returns-in-4 c = search cases depth 12

pub returns-in_default : goal.returns-in_default
unfolding body_at
returns-in_default c = search (reading, cases) depth 12
