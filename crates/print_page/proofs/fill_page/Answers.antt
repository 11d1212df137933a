use Rattle.call_check.proofs.Schemas.{tables}
use Rattle.common.proofs.Puts.{puts_same}
use Rattle.print_page.proofs.Paging.{page_counted, page_unchecked}
use borrow.Author.Rules.{rules}
use Rattle.print_page.proofs.fill_page.Goals as goal

pub fill-requires : goal.fill-requires
fill-requires c = search (page_counted, page_unchecked, tables, puts_same, rules)

pub returns-in-Ok-clause-fills : goal.returns-in-Ok-clause-fills
returns-in-Ok-clause-fills c = search (page_counted, page_unchecked, tables, puts_same, rules)

pub returns-in-Err-clause-fills : goal.returns-in-Err-clause-fills
returns-in-Err-clause-fills c = search (page_counted, page_unchecked, tables, puts_same, rules)
