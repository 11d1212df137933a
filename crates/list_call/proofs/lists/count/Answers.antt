use Rattle.common.proofs.Said.{again, tried, failed}
use Rattle.call_check.proofs.Schemas.{tables}
use Rattle.list_call.proofs.Answers.{lists}
use borrow.Author.Rules.{rules}
use Rattle.list_call.proofs.lists.count.Goals as goal

pub count_in-requires : goal.count_in-requires
count_in-requires c = search (lists, tables, rules)

pub returns-in_err-counts : goal.returns-in_err-counts
returns-in_err-counts c = rw (again _ _ c.from_residual.ensures) (search (lists, failed _ _ _ c.branch-counts.ensures c.in_err-counts.is))

pub returns : goal.returns
returns c = search (lists, tried _ _ _ c.branch-counts.ensures c.in_ok-counts.is)
