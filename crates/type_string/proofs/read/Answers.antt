use Rattle.type_string.specs.Strings.{type_at}
use Rattle.common.proofs.Said.{trying, said_again, tried}
use Rattle.type_string.proofs.Answers.{strings, string_inside}
use Rattle.number_varint.proofs.Varints.{varint_within}
use Rattle.common.proofs.Choose.{cases}
use borrow.Author.Rules.{rules}
use Rattle.type_string.proofs.read.Goals as goal

pub returns-in_err-value : goal.returns-in_err-value
unfolding type_at
returns-in_err-value c = said_again _ _ _ c.from_residual.ensures (search (trying, cases) depth 12)

pub overflow_sub-end : goal.overflow_sub-end
overflow_sub-end c = search (varint_within, rules)

pub returns-then-end-next : goal.returns-then-end-next
unfolding type_at
returns-then-end-next c = search (trying, strings, cases) depth 12

pub slice_bounds-parse-end : goal.slice_bounds-parse-end
slice_bounds-parse-end c = search (string_inside, tried _ _ _ c.branch-value.ensures c.in_ok-value.is)

pub returns-in-Ok : goal.returns-in-Ok
unfolding type_at
returns-in-Ok c = search (trying, strings, cases) depth 12

pub returns-in-Err : goal.returns-in-Err
unfolding type_at
returns-in-Err c = search (trying, strings, cases) depth 12
