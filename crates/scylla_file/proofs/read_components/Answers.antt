use Rattle.common.proofs.Said.{said_again, said_got, said_not, said_ok, tried, failed}
use Rattle.scylla_sharding.proofs.Loops.{repeating}
use borrow.Author.Rules.{rules}
use Rattle.scylla_file.proofs.read_components.Goals as goal

pub loop-init : goal.loop-init
loop-init c = search (repeating, rules)

pub returns-in_err-components : goal.returns-in_err-components
returns-in_err-components c = said_again _ _ _ c.from_residual.ensures (search (repeating, said_not, failed _ _ _ c.branch-components.ensures c.in_err-components.is, rules))

pub loop-preserved : goal.loop-preserved
loop-preserved c = search (repeating, said_got, tried _ _ _ c.branch-components.ensures c.in_ok-components.is, rules)

pub returns : goal.returns
returns c = search (repeating, said_ok, rules)
