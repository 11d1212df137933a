use Rattle.common.proofs.Choose.{cases}
use Rattle.common.proofs.Said.{trying, said_again}
use Rattle.data_field.proofs.Sums.{sums}
use Rattle.data_field.specs.Fields.{in_at}
use Rattle.data_field.proofs.fields.read_in.Goals as goal

pub returns-then-hi-base : goal.returns-then-hi-base
unfolding in_at
returns-then-hi-base c = search (trying, cases, sums) depth 12

pub returns-then-hi-base-2 : goal.returns-then-hi-base-2
unfolding in_at
returns-then-hi-base-2 c = search (trying, cases, sums) depth 12

pub returns-then-sum-lo : goal.returns-then-sum-lo
unfolding in_at
returns-then-sum-lo c = search (trying, cases, sums) depth 12

pub returns-in_err-value : goal.returns-in_err-value
unfolding in_at
returns-in_err-value c = said_again _ _ _ c.from_residual.ensures (search (trying, cases, sums) depth 12)

pub returns : goal.returns
unfolding in_at
returns c = search (trying, cases, sums) depth 12
