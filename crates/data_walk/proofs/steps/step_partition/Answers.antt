use Rattle.data_walk.proofs.Said.{moves}
use Rattle.common.proofs.Choose.{cases}
use Rattle.data_walk.proofs.Said.{handed_as}
use Rattle.data_walk.specs.Steps.{partition_answer}
use Rattle.data_walk.proofs.steps.step_partition.Goals as goal

pub returns-then-s-x : goal.returns-then-s-x
unfolding partition_answer
returns-then-s-x c = search (moves, cases) depth 12

pub returns-then-x-s : goal.returns-then-x-s
unfolding partition_answer
returns-then-x-s c = search (moves, cases) depth 12

pub returns : goal.returns
unfolding partition_answer
returns c = search (moves, handed_as, cases) depth 12
