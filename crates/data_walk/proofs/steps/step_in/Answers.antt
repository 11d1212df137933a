use Rattle.data_walk.proofs.Said.{phases}
use Rattle.data_walk.proofs.steps.step_in.Goals as goal

pub returns-then-is_of_cells : goal.returns-then-is_of_cells
returns-then-is_of_cells c = search phases

pub returns-in-Partition : goal.returns-in-Partition
returns-in-Partition c = search phases

pub returns-in-First : goal.returns-in-First
returns-in-First c = search phases

pub returns-in-Items : goal.returns-in-Items
returns-in-Items c = search phases

pub returns-in-Values : goal.returns-in-Values
returns-in-Values c = search phases

pub returns-in-Prefix : goal.returns-in-Prefix
returns-in-Prefix c = search phases

pub returns-in-Statics : goal.returns-in-Statics
returns-in-Statics c = search phases

pub returns-in-Cells : goal.returns-in-Cells
returns-in-Cells c = search phases
