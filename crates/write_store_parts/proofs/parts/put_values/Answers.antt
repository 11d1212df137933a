use Rattle.write_store_parts.proofs.PutValues.{valuing}
use borrow.Author.Rules.{rules}
use Rattle.write_store_parts.proofs.parts.put_values.Goals as goal

pub loop-init : goal.loop-init
loop-init c = search (valuing, rules) depth 12

pub put_value-out-requires : goal.put_value-out-requires
put_value-out-requires c = search (valuing, rules) depth 12

pub overflow_add-column : goal.overflow_add-column
overflow_add-column c = search (valuing, rules) depth 12

pub overflow_add-p : goal.overflow_add-p
overflow_add-p c = search (valuing, rules) depth 12

pub loop-preserved : goal.loop-preserved
loop-preserved c = search (valuing, rules) depth 12

pub shape_of-d : goal.shape_of-d
shape_of-d c = search (valuing, rules) depth 12

pub returns : goal.returns
returns c = search (valuing, rules) depth 12
