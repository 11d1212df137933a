use borrow.Author.Rules.{rules}
use Rattle.common.proofs.Puts.{puts_same}
use Rattle.print_page.proofs.Paging.{paging}
use Rattle.print_page.proofs.fill.Goals as goal

pub loop-init : goal.loop-init
loop-init c = search (paging, puts_same, rules)

pub step_in-requires : goal.step_in-requires
step_in-requires c = search (paging, puts_same, rules)

pub put_line-at-requires : goal.put_line-at-requires
put_line-at-requires c = search (paging, puts_same, rules)

pub loop-smaller : goal.loop-smaller
loop-smaller c = search (paging, puts_same, rules)

pub put_refusal-requires : goal.put_refusal-requires
put_refusal-requires c = search (paging, puts_same, rules)

pub shape_of-d : goal.shape_of-d
shape_of-d c = search (paging, puts_same, rules)

pub returns : goal.returns
returns c = search (paging, puts_same, rules)

pub loop-preserved : goal.loop-preserved
loop-preserved c = search (paging, puts_same, rules)

pub returns-in-Ok-None-clause-fills : goal.returns-in-Ok-None-clause-fills
returns-in-Ok-None-clause-fills c = search (paging, puts_same, rules)

pub returns-in-Err-clause-fills : goal.returns-in-Err-clause-fills
returns-in-Err-clause-fills c = search (paging, puts_same, rules)
