use Rattle.schema_check.proofs.Runs.{running}
use borrow.Author.Rules.{rules}
use Rattle.schema_check.proofs.records.run.Goals as goal

pub overflow_sub-s : goal.overflow_sub-s
overflow_sub-s c = search (running, rules)

pub most_of-requires : goal.most_of-requires
most_of-requires c = search (running, rules)

pub lesser-most-requires : goal.lesser-most-requires
lesser-most-requires c = search (running, rules)

pub loop-n-init : goal.loop-n-init
loop-n-init c = search (running, rules)

pub overflow_mul-n : goal.overflow_mul-n
overflow_mul-n c = search (running, rules)

pub overflow_add-from : goal.overflow_add-from
overflow_add-from c = search (running, rules)

pub is_of-requires : goal.is_of-requires
is_of-requires c = search (running, rules)

pub loop-n-smaller : goal.loop-n-smaller
loop-n-smaller c = search (running, rules)

pub loop-n-preserved : goal.loop-n-preserved
loop-n-preserved c = search (running, rules)

pub returns : goal.returns
returns c = search (running, rules)

pub returns-then-not-is_of : goal.returns-then-not-is_of
returns-then-not-is_of c = search (running, rules)
