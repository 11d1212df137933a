use Rattle.type_name.proofs.Scans.{passing}
use borrow.Author.Rules.{rules}
use Rattle.type_name.proofs.skip_blanks.Goals as goal

pub loop-i-init : goal.loop-i-init
loop-i-init c = search (passing, rules)

pub loop-i-preserved : goal.loop-i-preserved
loop-i-preserved c = search (passing, rules)

pub returns : goal.returns
returns c = search (passing, rules)

pub returns-then-not-is_blank : goal.returns-then-not-is_blank
returns-then-not-is_blank c = search (passing, rules)
