use Rattle.schema_column.proofs.Loops.{alike}
use borrow.Author.Rules.{rules}
use Rattle.schema_column.proofs.is_same.Goals as goal

pub returns-then-a-b : goal.returns-then-a-b
returns-then-a-b c = search (alike, rules)

pub loop-i-init : goal.loop-i-init
loop-i-init c = search (alike, rules)

pub overflow_mul-i : goal.overflow_mul-i
overflow_mul-i c = search (alike, rules)

pub is_same_column-requires : goal.is_same_column-requires
is_same_column-requires c = search (alike, rules)

pub loop-i-smaller : goal.loop-i-smaller
loop-i-smaller c = search (alike, rules)

pub loop-i-preserved : goal.loop-i-preserved
loop-i-preserved c = search (alike, rules)

pub returns : goal.returns
returns c = search (alike, rules)

pub returns-then-not-is_same_column : goal.returns-then-not-is_same_column
returns-then-not-is_same_column c = search (alike, rules)
