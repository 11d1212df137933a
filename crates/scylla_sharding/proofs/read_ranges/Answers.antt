use Rattle.common.proofs.Said.{said_again, said_got, said_not, said_ok, tried, failed}
use Rattle.scylla_sharding.proofs.Loops.{repeating}
use borrow.Author.Rules.{rules}
use Rattle.scylla_sharding.proofs.read_ranges.Goals as goal

pub loop-init : goal.loop-init
loop-init c = search (repeating, rules)

pub returns-in_err-bound : goal.returns-in_err-bound
returns-in_err-bound c = said_again _ _ _ c.from_residual.ensures (search (repeating, said_not, failed _ _ _ c.branch-bound.ensures c.in_err-bound.is, rules))

pub loop-preserved : goal.loop-preserved
loop-preserved c = search (repeating, said_got, tried _ _ _ c.branch-bound.ensures c.in_ok-bound.is, rules)

pub returns : goal.returns
returns c = search (repeating, said_got, said_ok, rules)
