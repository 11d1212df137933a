use Rattle.common.proofs.Said.{again}
use Rattle.call_check.proofs.Schemas.{tables}
use Rattle.list_call.proofs.Loops.{counting}
use borrow.Author.Rules.{rules}
use Rattle.list_call.proofs.lists.count_in.Goals as goal

pub returns-in_err-value : goal.returns-in_err-value
returns-in_err-value c = rw (again _ _ c.from_residual.ensures) (search (counting, tables, rules) depth 12)

pub returns : goal.returns
returns c = search (counting, tables, rules) depth 12
