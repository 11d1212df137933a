use Rattle.common.proofs.Said.{said_again, tried, failed}
use Rattle.stats_contents.proofs.Pairs.{pairing}
use borrow.Author.Rules.{rules}
use Rattle.stats_contents.proofs.contents.pairs.Goals as goal

pub loop-preserved : goal.loop-preserved
loop-preserved c = search (pairing, rules)

pub returns : goal.returns
returns c = search (pairing, rules)

pub returns-in_err-offset : goal.returns-in_err-offset
returns-in_err-offset c = said_again _ _ _ c.from_residual-in_err-offset.ensures (search (tried _ _ _ c.branch-entry.ensures c.in_ok-entry.is, failed _ _ _ c.branch-offset.ensures c.in_err-offset.is, pairing, rules))

pub returns-in_err-entry : goal.returns-in_err-entry
returns-in_err-entry c = said_again _ _ _ c.from_residual.ensures (search (failed _ _ _ c.branch-entry.ensures c.in_err-entry.is, pairing, rules))
