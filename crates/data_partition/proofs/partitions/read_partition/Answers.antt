use Rattle.common.proofs.Choose.{cases, told}
use Rattle.common.proofs.Said.{trying, said_again}
use Rattle.data_partition.specs.Partitions.{partition_at}
use Rattle.number_fixed.proofs.BigEndian.{fixed_within}
use borrow.Author.Rules.{rules}
use Rattle.data_partition.proofs.partitions.read_partition.Goals as goal

pub overflow_sub-end : goal.overflow_sub-end
overflow_sub-end c = search (fixed_within, rules)

pub returns-then-end-next : goal.returns-then-end-next
unfolding partition_at
returns-then-end-next c = search (trying, cases) depth 12

pub returns-in_err-value : goal.returns-in_err-value
unfolding partition_at
returns-in_err-value c = said_again _ _ _ c.from_residual.ensures (search (trying, cases) depth 12)

pub returns-in_err-deletion : goal.returns-in_err-deletion
unfolding partition_at
returns-in_err-deletion c = said_again _ _ _ c.from_residual-in_err-deletion.ensures (search (trying, told, cases) depth 12)

pub returns : goal.returns
unfolding partition_at
returns c = search (trying, told, cases) depth 12
