use Rattle.common.proofs.Said.{tried, failed, place_ok, place_again, place_got, place_not}
use Rattle.scylla_sharding.proofs.Loops.{repeating}
use borrow.Author.Rules.{rules}
use Rattle.scylla_file.proofs.body.skip_each.Goals as goal

pub loop-init : goal.loop-init
loop-init c = search (repeating, rules)

pub returns-in_err-p : goal.returns-in_err-p
returns-in_err-p c = place_again _ _ _ c.from_residual.ensures (search (repeating, place_not, failed _ _ _ c.branch-p.ensures c.in_err-p.is, rules))

pub loop-preserved : goal.loop-preserved
loop-preserved c = search (repeating, place_got, tried _ _ _ c.branch-p.ensures c.in_ok-p.is, rules)

pub returns : goal.returns
returns c = search (repeating, place_ok, rules)
