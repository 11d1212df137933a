use Rattle.common.proofs.Said.{again, tried, failed}
use Rattle.write_call.proofs.Answers.{writing}
use borrow.Author.Rules.{rules}
use Rattle.write_call.proofs.writes.write.Goals as goal

pub write_in-requires : goal.write_in-requires
write_in-requires c = search (tried _ _ _ c.branch-counts.ensures c.in_ok-counts.is, writing, rules) depth 12

pub returns-in_err-counts : goal.returns-in_err-counts
returns-in_err-counts c = rw (again _ _ c.from_residual.ensures) (search (failed _ _ _ c.branch-counts.ensures c.in_err-counts.is, writing, rules) depth 12)

pub returns : goal.returns
returns c = search (tried _ _ _ c.branch-counts.ensures c.in_ok-counts.is, writing, rules) depth 12
