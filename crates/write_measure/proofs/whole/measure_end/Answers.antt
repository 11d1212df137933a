use Rattle.common.proofs.Said.{said_again, tried, failed}
use Rattle.write_measure.proofs.Loops.{ends}
use borrow.Author.Rules.{rules}
use Rattle.write_measure.proofs.whole.measure_end.Goals as goal

pub returns-in_err-next : goal.returns-in_err-next
returns-in_err-next c = said_again _ _ _ c.from_residual.ensures (search (failed _ _ _ c.branch-next.ensures c.in_err-next.is, ends, rules))

pub returns : goal.returns
returns c = search (tried _ _ _ c.branch-next.ensures c.in_ok-next.is, ends, rules)
