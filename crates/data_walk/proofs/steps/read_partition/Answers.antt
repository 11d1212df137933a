use Rattle.common.proofs.Choose.{cases}
use Rattle.common.proofs.Said.{trying}
use Rattle.data_walk.proofs.Said.{moves, moved_again}
use Rattle.data_walk.specs.Steps.{partition_step}
use Rattle.data_walk.proofs.steps.read_partition.Goals as goal

pub returns-in_err-partition : goal.returns-in_err-partition
unfolding partition_step
returns-in_err-partition c = moved_again _ _ _ c.from_residual.ensures (search (trying, moves, cases) depth 12)

pub returns : goal.returns
unfolding partition_step
returns c = search (trying, moves, cases) depth 12
