use Rattle.common.proofs.Said.{said_again, tried}
use Rattle.write_measure_parts.proofs.Values.{valuing}
use borrow.Author.Rules.{rules}
use Rattle.write_measure_parts.proofs.parts.measure_clustering.Goals as goal

pub loop-i-init : goal.loop-i-init
loop-i-init c = search (valuing, rules) depth 12

pub is_over-requires : goal.is_over-requires
is_over-requires c = search (valuing, rules) depth 12

pub returns-then-is_over : goal.returns-then-is_over
returns-then-is_over c = search (valuing, rules) depth 12

pub overflow_add-width : goal.overflow_add-width
overflow_add-width c = search (valuing, rules) depth 12

pub bounds-c-column : goal.bounds-c-column
bounds-c-column c = search (valuing, rules) depth 12

pub read_value-requires : goal.read_value-requires
read_value-requires c = search (valuing, rules) depth 12

pub empty_bit-header-requires : goal.empty_bit-header-requires
empty_bit-header-requires c = search (valuing, rules) depth 12

pub overflow_add-size : goal.overflow_add-size
overflow_add-size c = search (valuing, rules) depth 12

pub overflow_add-column : goal.overflow_add-column
overflow_add-column c = search (valuing, rules) depth 12

pub loop-i-preserved : goal.loop-i-preserved
loop-i-preserved c = search (valuing, rules) depth 12

pub returns : goal.returns
returns c = search (valuing, rules) depth 12

pub overflow_add-header : goal.overflow_add-header
overflow_add-header c = search (tried _ _ _ c.branch-item.ensures c.in_ok-item.is, valuing, rules) depth 12

pub value_len-size-requires : goal.value_len-size-requires
value_len-size-requires c = search (tried _ _ _ c.branch-item.ensures c.in_ok-item.is, valuing, rules) depth 12

pub returns-in_err-item : goal.returns-in_err-item
returns-in_err-item c = said_again _ _ _ c.from_residual.ensures (search (valuing, rules) depth 12)
