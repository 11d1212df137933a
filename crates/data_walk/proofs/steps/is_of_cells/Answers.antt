use Rattle.data_walk.proofs.Said.{of_cells_as}
use Rattle.data_walk.specs.Steps.{is_of_cells}
use Rattle.data_walk.proofs.steps.is_of_cells.Goals as goal

pub returns-in-Partition : goal.returns-in-Partition
unfolding is_of_cells
returns-in-Partition c = search of_cells_as depth 12

pub returns-in-First : goal.returns-in-First
unfolding is_of_cells
returns-in-First c = search of_cells_as depth 12

pub returns-in-Items : goal.returns-in-Items
unfolding is_of_cells
returns-in-Items c = search of_cells_as depth 12

pub returns-in-Values : goal.returns-in-Values
unfolding is_of_cells
returns-in-Values c = search of_cells_as depth 12

pub returns-in-Prefix : goal.returns-in-Prefix
unfolding is_of_cells
returns-in-Prefix c = search of_cells_as depth 12

pub returns-in-Statics : goal.returns-in-Statics
unfolding is_of_cells
returns-in-Statics c = search of_cells_as depth 12

pub returns-in-Cells : goal.returns-in-Cells
unfolding is_of_cells
returns-in-Cells c = search of_cells_as depth 12
