use Rattle.text.proofs.Texts.{seeking}
use borrow.Author.Rules.{rules}
use Rattle.text.proofs.among.Goals as goal

pub loop-i-init : goal.loop-i-init
loop-i-init c = search (seeking, rules)

pub bounds-bytes-i : goal.bounds-bytes-i
bounds-bytes-i c = search (seeking, rules)

pub returns-then-c-bytes : goal.returns-then-c-bytes
returns-then-c-bytes c = search (seeking, rules)

pub loop-i-preserved : goal.loop-i-preserved
loop-i-preserved c = search (seeking, rules)

pub returns : goal.returns
returns c = search (seeking, rules)
