use Rattle.type_table.proofs.Rows.{finding}
use borrow.Author.Rules.{rules}
use Rattle.type_table.proofs.find.Goals as goal

pub loop-line-init : goal.loop-line-init
loop-line-init c = search (finding, rules)

pub has_name-requires : goal.has_name-requires
has_name-requires c = search (finding, rules)

pub returns-then-has_name : goal.returns-then-has_name
returns-then-has_name c = search (finding, rules)

pub loop-line-smaller : goal.loop-line-smaller
loop-line-smaller c = search (finding, rules)

pub loop-line-preserved : goal.loop-line-preserved
loop-line-preserved c = search (finding, rules)

pub returns : goal.returns
returns c = search (finding, rules)
