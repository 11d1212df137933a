use Rattle.std.proofs.Common.{rules}
use Rattle.common.proofs.Puts.{stores, length_part, part_at}
use Rattle.common.proofs.part.put_part.Goals as goal

pub loop-i-init : goal.loop-i-init
loop-i-init c = search (length_part, part_at, stores, rules)

pub overflow_add-d : goal.overflow_add-d
overflow_add-d c = search (length_part, part_at, stores, rules)

pub bounds-s-start : goal.bounds-s-start
bounds-s-start c = search (length_part, part_at, stores, rules)

pub overflow_add-d-in-loop-i : goal.overflow_add-d-in-loop-i
overflow_add-d-in-loop-i c = search (length_part, part_at, stores, rules)

pub bounds-d-at : goal.bounds-d-at
bounds-d-at c = search (length_part, part_at, stores, rules)

pub loop-i-preserved : goal.loop-i-preserved
loop-i-preserved c = search (length_part, part_at, stores, rules)

pub overflow_add-result : goal.overflow_add-result
overflow_add-result c = search (length_part, part_at, stores, rules)

pub shape_of-d : goal.shape_of-d
shape_of-d c = search (length_part, part_at, stores, rules)

pub returns : goal.returns
returns c = search (length_part, part_at, stores, rules)
