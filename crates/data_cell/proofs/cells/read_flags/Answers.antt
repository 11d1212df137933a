use Rattle.common.proofs.Choose.{cases, told}
use Rattle.common.proofs.Said.{trying, said_again}
use Rattle.data_cell.specs.Cells.{flags_at}
use Rattle.data_cell.proofs.cells.read_flags.Goals as goal

pub returns-then-bad_flags : goal.returns-then-bad_flags
unfolding flags_at
returns-then-bad_flags c = search (trying, told, cases) depth 12

pub returns-in_err-value : goal.returns-in_err-value
unfolding flags_at
returns-in_err-value c = said_again _ _ _ c.from_residual.ensures (search (trying, cases) depth 12)

pub returns : goal.returns
unfolding flags_at
returns c = search (trying, told, cases) depth 12
