use Rattle.text.proofs.Texts.{comparing}
use borrow.Author.Rules.{rules}
use Rattle.text.proofs.equal.Goals as goal

pub returns-then-a-b : goal.returns-then-a-b
returns-then-a-b c = search (comparing, rules)

pub returns-then-a-gt8 : goal.returns-then-a-gt8
returns-then-a-gt8 c = search (comparing, rules)

pub loop-i-init : goal.loop-i-init
loop-i-init c = search (comparing, rules)

pub bounds-a-i : goal.bounds-a-i
bounds-a-i c = search (comparing, rules)

pub bounds-b-i : goal.bounds-b-i
bounds-b-i c = search (comparing, rules)

pub returns-then-a-i : goal.returns-then-a-i
returns-then-a-i c = search (comparing, rules)

pub loop-i-preserved : goal.loop-i-preserved
loop-i-preserved c = search (comparing, rules)

pub returns : goal.returns
returns c = search (comparing, rules)
