use Rattle.type_string.proofs.Answers.{tails}
use borrow.Author.Rules.{rules}
use Rattle.type_string.proofs.string.is_tail.Goals as goal

pub returns-then-s-at : goal.returns-then-s-at
returns-then-s-at c = search (tails, rules)

pub returns-then-under-eq0 : goal.returns-then-under-eq0
returns-then-under-eq0 c = search (tails, rules)

pub returns-then-s-at-ne41 : goal.returns-then-s-at-ne41
returns-then-s-at-ne41 c = search (tails, rules)

pub returns : goal.returns
returns c = search (tails, rules)
