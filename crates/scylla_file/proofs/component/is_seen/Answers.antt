use Rattle.common.proofs.Choose.{cases}
use Rattle.scylla_file.specs.Components.{is_seen}
use Rattle.scylla_file.proofs.component.is_seen.Goals as goal

pub returns-in-1 : goal.returns-in-1
unfolding is_seen
returns-in-1 c = search cases depth 12

pub returns-in-2 : goal.returns-in-2
unfolding is_seen
returns-in-2 c = search cases depth 12

pub returns-in-3 : goal.returns-in-3
unfolding is_seen
returns-in-3 c = search cases depth 12

pub returns-in-4 : goal.returns-in-4
unfolding is_seen
returns-in-4 c = search cases depth 12

pub returns-in_default : goal.returns-in_default
unfolding is_seen
returns-in_default c = search cases depth 12
