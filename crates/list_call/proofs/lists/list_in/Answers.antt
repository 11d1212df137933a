use Rattle.common.proofs.Said.{again, tried, failed}
use Rattle.list_call.proofs.Answers.{lists}
use borrow.Author.Rules.{rules}
use Rattle.list_call.proofs.lists.list_in.Goals as goal

pub returns-in_err-n : goal.returns-in_err-n
returns-in_err-n c = rw (again _ _ c.from_residual.ensures) (search (lists, failed _ _ _ c.branch-n.ensures c.in_err-n.is))

pub no_room-requires : goal.no_room-requires
no_room-requires c = search (lists, rules, tried _ _ _ c.branch-n.ensures c.in_ok-n.is)

pub returns-then-d-n : goal.returns-then-d-n
returns-then-d-n c = search (lists, tried _ _ _ c.branch-n.ensures c.in_ok-n.is)

pub fill-requires : goal.fill-requires
fill-requires c = search (lists, rules, tried _ _ _ c.branch-n.ensures c.in_ok-n.is)

pub returns : goal.returns
returns c = search (lists, tried _ _ _ c.branch-n.ensures c.in_ok-n.is)
