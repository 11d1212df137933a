use Rattle.common.proofs.Choose.{cases}
use Rattle.common.proofs.Said.{trying, said_again}
use Rattle.scylla_file.specs.Components.{with_run}
use Rattle.scylla_file.proofs.component.with_run.Goals as goal

pub returns-in_err-uuid : goal.returns-in_err-uuid
unfolding with_run
returns-in_err-uuid c = said_again _ _ _ c.from_residual.ensures (search (trying, cases) depth 12)

pub returns : goal.returns
unfolding with_run
returns c = search (trying, cases) depth 12
