use Rattle.common.proofs.Said.{again, tried, failed}
use Rattle.write_call.proofs.Answers.{writing}
use borrow.Author.Rules.{rules}
use Rattle.write_call.proofs.writes.write_in.Goals as goal

pub returns-then-d-n : goal.returns-then-d-n
returns-then-d-n c = search (tried _ _ _ c.branch-n.ensures c.in_ok-n.is, writing, rules) depth 12

pub put_contents-requires : goal.put_contents-requires
put_contents-requires c = search (tried _ _ _ c.branch-n.ensures c.in_ok-n.is, writing, rules) depth 12

pub returns-in_err-n : goal.returns-in_err-n
returns-in_err-n c = rw (again _ _ c.from_residual.ensures) (search (failed _ _ _ c.branch-n.ensures c.in_err-n.is, writing, rules) depth 12)

pub returns : goal.returns
returns c = search (tried _ _ _ c.branch-n.ensures c.in_ok-n.is, writing, rules) depth 12
