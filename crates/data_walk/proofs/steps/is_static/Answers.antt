use Rattle.data_walk.proofs.Said.{static_as}
use Rattle.data_walk.specs.Steps.{is_static}
use Rattle.data_walk.proofs.steps.is_static.Goals as goal

pub returns-in-Partition : goal.returns-in-Partition
unfolding is_static
returns-in-Partition c = search static_as depth 12

pub returns-in-First : goal.returns-in-First
unfolding is_static
returns-in-First c = search static_as depth 12

pub returns-in-Items : goal.returns-in-Items
unfolding is_static
returns-in-Items c = search static_as depth 12

pub returns-in-Values : goal.returns-in-Values
unfolding is_static
returns-in-Values c = search static_as depth 12

pub returns-in-Prefix : goal.returns-in-Prefix
unfolding is_static
returns-in-Prefix c = search static_as depth 12

pub returns-in-Statics : goal.returns-in-Statics
unfolding is_static
returns-in-Statics c = search static_as depth 12

pub returns-in-Cells : goal.returns-in-Cells
unfolding is_static
returns-in-Cells c = search static_as depth 12
