use Rattle.common.proofs.Said.{again, tried, failed}
use Rattle.call_check.proofs.Schemas.{tables}
use Rattle.list_call.proofs.Answers.{lists}
use borrow.Author.Rules.{rules}
use Rattle.list_call.proofs.lists.list.Goals as goal

pub list_in-requires : goal.list_in-requires
list_in-requires c = search (lists, tables, rules)

pub returns-in_err-counts : goal.returns-in_err-counts
returns-in_err-counts c = rw (again _ _ c.from_residual.ensures) (search (lists, failed _ _ _ c.branch-counts.ensures c.in_err-counts.is))

pub returns : goal.returns
returns c = search (lists, tried _ _ _ c.branch-counts.ensures c.in_ok-counts.is)
