use Rattle.schema_column.proofs.Loops.{ordered}
use borrow.Author.Rules.{rules}
use Rattle.schema_column.proofs.first_unordered.Goals as goal

pub loop-i-init : goal.loop-i-init
loop-i-init c = search (ordered, rules)

pub overflow_mul-at : goal.overflow_mul-at
overflow_mul-at c = search (ordered, rules)

pub bounds-schema-at : goal.bounds-schema-at
bounds-schema-at c = search (ordered, rules)

pub overflow_add-at : goal.overflow_add-at
overflow_add-at c = search (ordered, rules)

pub bounds-schema-at-then-schema-at-eq1 : goal.bounds-schema-at-then-schema-at-eq1
bounds-schema-at-then-schema-at-eq1 c = search (ordered, rules)

pub is_ordered-requires : goal.is_ordered-requires
is_ordered-requires c = search (ordered, rules)

pub loop-i-smaller : goal.loop-i-smaller
loop-i-smaller c = search (ordered, rules)

pub loop-i-preserved : goal.loop-i-preserved
loop-i-preserved c = search (ordered, rules)

pub returns : goal.returns
returns c = search (ordered, rules)

pub returns-then-not-is_ordered : goal.returns-then-not-is_ordered
returns-then-not-is_ordered c = search (ordered, rules)
