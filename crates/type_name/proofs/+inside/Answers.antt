use Rattle.common.proofs.Said.{tried, failed}
use borrow.Author.Rules.{rules}
use Rattle.type_name.proofs.Parentheses.{balancing, inner_less, inner_faulty}
use Rattle.type_name.proofs.+inside.Goals as goal

pub returns-then-left-eq0 : goal.returns-then-left-eq0
returns-then-left-eq0 t c = search (balancing, rules)

pub loop-i-smaller-then-c-eq40 : goal.loop-i-smaller-then-c-eq40
loop-i-smaller-then-c-eq40 t c = search (inner_less, tried, rules)

pub loop-i-preserved-then-c-eq40 : goal.loop-i-preserved-then-c-eq40
loop-i-preserved-then-c-eq40 t c = search (balancing, tried, rules)

pub returns-in_err-i : goal.returns-in_err-i
returns-in_err-i t c = search (inner_faulty, failed, rules)

pub returns-then-c-eq41 : goal.returns-then-c-eq41
returns-then-c-eq41 t c = search (balancing, rules)

pub loop-i-preserved : goal.loop-i-preserved
loop-i-preserved t c = search (balancing, rules)

pub returns-else-is_parameter : goal.returns-else-is_parameter
returns-else-is_parameter t c = search (balancing, rules)

pub returns : goal.returns
returns t c = search (balancing, rules)
