use Rattle.common.proofs.Choose.{cases, told}
use Rattle.common.proofs.Said.{reading}
use Rattle.data_partition.specs.Partitions.{deleted_by}
use Rattle.data_partition.proofs.partitions.deleted_by.Goals as goal

pub returns-then-mark-eq0 : goal.returns-then-mark-eq0
unfolding deleted_by
returns-then-mark-eq0 c = search (reading, told, cases) depth 12

pub returns-then-local-eq2147483647 : goal.returns-then-local-eq2147483647
unfolding deleted_by
returns-then-local-eq2147483647 c = search (reading, told, cases) depth 12

pub returns-then-mark-eq0-2 : goal.returns-then-mark-eq0-2
unfolding deleted_by
returns-then-mark-eq0-2 c = search (reading, told, cases) depth 12

pub returns : goal.returns
unfolding deleted_by
returns c = search (reading, told, cases) depth 12
