use Rattle.common.proofs.Choose.{cases, told}
use Rattle.common.proofs.Said.{trying, said_again}
use Rattle.number_fixed.proofs.BigEndian.{fixed_within}
use Rattle.stats_validation.specs.Validation.{validation_at}
use borrow.Author.Rules.{rules}
use Rattle.stats_validation.proofs.read.Goals as goal

pub overflow_sub-end : goal.overflow_sub-end
overflow_sub-end c = search (fixed_within, rules)

pub returns-in_err-value : goal.returns-in_err-value
unfolding validation_at
returns-in_err-value c = said_again _ _ _ c.from_residual.ensures (search (trying, cases) depth 12)

pub returns-then-end-name : goal.returns-then-end-name
unfolding validation_at
returns-then-end-name c = search (trying, cases) depth 12

pub returns-in_err-chance : goal.returns-in_err-chance
unfolding validation_at
returns-in_err-chance c = said_again _ _ _ c.from_residual-in_err-chance.ensures (search (fixed_within, trying, told, cases) depth 12)

pub returns-then-next-end : goal.returns-then-next-end
unfolding validation_at
returns-then-next-end c = search (fixed_within, trying, cases) depth 12

pub returns : goal.returns
unfolding validation_at
returns c = search (fixed_within, trying, cases) depth 12
