use Rattle.common.proofs.Choose.{cases}
use Rattle.common.proofs.Said.{trying, said_again, tried}
use Rattle.scylla_sharding.proofs.Regions.{ends}
use Rattle.scylla_sharding.specs.Regions.{length_at}
use borrow.Author.Rules.{rules}
use Rattle.scylla_sharding.proofs.region.read_length.Goals as goal

pub returns-in_err-value : goal.returns-in_err-value
unfolding length_at
returns-in_err-value c = said_again _ _ _ c.from_residual.ensures (search (trying, cases) depth 12)

pub overflow_sub-end : goal.overflow_sub-end
overflow_sub-end c = search (ends, tried _ _ _ c.branch-value.ensures c.in_ok-value.is, rules)

pub returns-then-end-next : goal.returns-then-end-next
unfolding length_at
returns-then-end-next c = search (trying, cases) depth 12

pub returns : goal.returns
unfolding length_at
returns c = search (trying, cases) depth 12
