use Rattle.common.proofs.Choose.{cases}
use Rattle.common.proofs.Said.{trying, said_again}
use Rattle.number_varint.proofs.Varints.{varint_within}
use Rattle.data_clustering.specs.Sizes.{sizes_at}
use borrow.Author.Rules.{rules}
use Rattle.data_clustering.proofs.sizes.read_sizes.Goals as goal

pub overflow_sub-end : goal.overflow_sub-end
overflow_sub-end c = search (varint_within, rules)

pub returns-then-end-next : goal.returns-then-end-next
unfolding sizes_at
returns-then-end-next c = search (trying, cases) depth 12

pub returns-in_err-value : goal.returns-in_err-value
unfolding sizes_at
returns-in_err-value c = said_again _ _ _ c.from_residual.ensures (search (trying, cases) depth 12)

pub returns-in_err-next : goal.returns-in_err-next
unfolding sizes_at
returns-in_err-next c = said_again _ _ _ c.from_residual-in_err-next.ensures (search (trying, cases) depth 12)

pub returns : goal.returns
unfolding sizes_at
returns c = search (trying, cases) depth 12
