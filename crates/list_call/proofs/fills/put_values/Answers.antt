use Rattle.list_call.proofs.PutValues.{valuing, valuing_same}
use borrow.Author.Rules.{rules}
use Rattle.list_call.proofs.fills.put_values.Goals as goal

pub loop-i-init : goal.loop-i-init
loop-i-init c = search (valuing, rules) depth 12

pub overflow_add-width : goal.overflow_add-width
overflow_add-width c = search (valuing, rules) depth 12

pub bounds-c-column : goal.bounds-c-column
bounds-c-column c = search (valuing, rules) depth 12

pub value_item-item-requires : goal.value_item-item-requires
value_item-item-requires c = search (valuing, rules) depth 12

pub put_record-out-requires : goal.put_record-out-requires
put_record-out-requires c = search (valuing, rules) depth 12

pub overflow_add-column : goal.overflow_add-column
overflow_add-column c = search (valuing, rules) depth 12

pub loop-i-smaller : goal.loop-i-smaller
loop-i-smaller c = search (valuing, rules) depth 12

pub loop-i-preserved : goal.loop-i-preserved
loop-i-preserved c = search (valuing, rules) depth 12

pub shape_of-d : goal.shape_of-d
shape_of-d c = search (valuing_same, rules)

pub returns : goal.returns
returns c = search (valuing, rules) depth 12

pub known_clustering-next-requires : goal.known_clustering-next-requires
known_clustering-next-requires c = search (valuing, rules) depth 12
