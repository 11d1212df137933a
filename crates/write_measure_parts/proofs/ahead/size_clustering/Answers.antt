use Rattle.write_measure_parts.proofs.Values.{valued_more, sizing}
use borrow.Author.Rules.{rules}
use Rattle.write_measure_parts.proofs.ahead.size_clustering.Goals as goal

pub loop-i-init : goal.loop-i-init
loop-i-init c = search (sizing, rules) depth 12

pub is_over-requires : goal.is_over-requires
is_over-requires c = search (sizing, rules) depth 12

pub returns-then-is_over : goal.returns-then-is_over
returns-then-is_over c = search (sizing, rules) depth 12

pub overflow_add-width : goal.overflow_add-width
overflow_add-width c = search (sizing, rules) depth 12

pub bounds-c-column : goal.bounds-c-column
bounds-c-column c = search (sizing, rules) depth 12

pub span_at-v-requires : goal.span_at-v-requires
span_at-v-requires c = search (sizing, rules) depth 12

pub empty_bit-header-requires : goal.empty_bit-header-requires
empty_bit-header-requires c = search (sizing, rules) depth 12

pub overflow_add-header : goal.overflow_add-header
overflow_add-header c = search (sizing, rules) depth 12

pub value_len-size-requires : goal.value_len-size-requires
value_len-size-requires c = search (sizing, rules) depth 12

pub overflow_add-size : goal.overflow_add-size
overflow_add-size c = search (sizing, rules) depth 12

pub overflow_add-p : goal.overflow_add-p
overflow_add-p c = search (sizing, rules) depth 12

pub overflow_add-column : goal.overflow_add-column
overflow_add-column c = search (sizing, rules) depth 12

pub loop-i-preserved : goal.loop-i-preserved
loop-i-preserved c = valued_more _ _ _ _ _ _ _ _ _ _ _ (search rules) (search rules) _ c.is_over.ensures (search rules) _ c.span_at-v.ensures _ _ c.empty_bit-header.ensures c.value_len-size.ensures.0

pub returns : goal.returns
returns c = search (sizing, rules) depth 12
