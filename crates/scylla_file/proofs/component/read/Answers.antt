use Rattle.common.proofs.Choose.{cases}
use Rattle.common.proofs.Said.{trying, said_again, tried}
use Rattle.scylla_sharding.proofs.Regions.{ends}
use Rattle.scylla_file.specs.Components.{component_at}
use borrow.Author.Rules.{rules}
use Rattle.scylla_file.proofs.component.read.Goals as goal

pub returns-in_err-tag : goal.returns-in_err-tag
unfolding component_at
returns-in_err-tag c = said_again _ _ _ c.from_residual.ensures (search (trying, cases) depth 12)

pub returns-in_err-size : goal.returns-in_err-size
unfolding component_at
returns-in_err-size c = said_again _ _ _ c.from_residual-in_err-size.ensures (search (trying, cases) depth 12)

pub overflow_add-next : goal.overflow_add-next
overflow_add-next c = search (ends, tried _ _ _ c.branch-size.ensures c.in_ok-size.is, rules)

pub returns : goal.returns
unfolding component_at
returns c = search (trying, cases) depth 12
