use Rattle.data_clustering.proofs.Loops.{heading}
use borrow.Author.Rules.{rules}
use Rattle.data_clustering.proofs.prefixes.bad_header.Goals as goal

pub returns-then-header-eq0 : goal.returns-then-header-eq0
returns-then-header-eq0 c = search (heading, rules)

pub loop-init : goal.loop-init
loop-init c = search (heading, rules)

pub returns-then-h-eq1 : goal.returns-then-h-eq1
returns-then-h-eq1 c = search (heading, rules)

pub loop-smaller : goal.loop-smaller
loop-smaller c = search (heading, rules)

pub loop-preserved : goal.loop-preserved
loop-preserved c = search (heading, rules)

pub returns : goal.returns
returns c = search (heading, rules)
