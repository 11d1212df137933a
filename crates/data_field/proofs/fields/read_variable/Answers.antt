use Rattle.common.proofs.Choose.{cases, told}
use Rattle.common.proofs.Said.{trying, said_again}
use Rattle.data_field.specs.Fields.{variable_at}
use Rattle.number_varint.proofs.Varints.{varint_within}
use borrow.Author.Rules.{rules}
use Rattle.data_field.proofs.fields.read_variable.Goals as goal

pub returns-then-value-eq0 : goal.returns-then-value-eq0
unfolding variable_at
returns-then-value-eq0 c = search (trying, cases) depth 12

pub overflow_sub-end : goal.overflow_sub-end
overflow_sub-end c = search (varint_within, rules)

pub returns-then-end-next : goal.returns-then-end-next
unfolding variable_at
returns-then-end-next c = search (trying, told, cases) depth 12

pub returns-in_err-value : goal.returns-in_err-value
unfolding variable_at
returns-in_err-value c = said_again _ _ _ c.from_residual.ensures (search (trying, cases) depth 12)

pub returns : goal.returns
unfolding variable_at
returns c = search (trying, told, cases) depth 12
