use Rattle.common.proofs.Choose.{cases, told}
use Rattle.common.proofs.Said.{trying, said_again}
use Rattle.data_partition.specs.Partitions.{deleted_at}
use Rattle.data_partition.proofs.partitions.read_deleted.Goals as goal

pub returns-then-local-gt2147483647 : goal.returns-then-local-gt2147483647
unfolding deleted_at
returns-then-local-gt2147483647 c = search (trying, cases) depth 12

pub returns-in_err-local : goal.returns-in_err-local
unfolding deleted_at
returns-in_err-local c = said_again _ _ _ c.from_residual.ensures (search (trying, cases) depth 12)

pub returns-in_err-value : goal.returns-in_err-value
unfolding deleted_at
returns-in_err-value c = said_again _ _ _ c.from_residual-in_err-value.ensures (search (trying, told, cases) depth 12)

pub returns : goal.returns
unfolding deleted_at
returns c = search (trying, told, cases) depth 12
