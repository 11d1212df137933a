use Rattle.common.proofs.Choose.{cases}
use Rattle.common.proofs.Said.{trying, said_again}
use Rattle.scylla_file.specs.Components.{file_at}
use Rattle.scylla_file.proofs.read_file.Goals as goal

pub returns-in_err-count : goal.returns-in_err-count
unfolding file_at
returns-in_err-count c = said_again _ _ _ c.from_residual.ensures (search (trying, cases) depth 12)

pub returns-in_err-components : goal.returns-in_err-components
unfolding file_at
returns-in_err-components c = said_again _ _ _ c.from_residual-in_err-components.ensures (search (trying, cases) depth 12)

pub returns-then-next-end : goal.returns-then-next-end
unfolding file_at
returns-then-next-end c = search (trying, cases) depth 12

pub returns : goal.returns
unfolding file_at
returns c = search (trying, cases) depth 12
