use Rattle.common.proofs.Choose.{cases}
use Rattle.common.proofs.Said.{trying, said_again}
use Rattle.data_cell.specs.Cells.{cell_at}
use Rattle.data_cell.proofs.cells.read_cell.Goals as goal

pub returns-in_err-value : goal.returns-in_err-value
unfolding cell_at
returns-in_err-value c = said_again _ _ _ c.from_residual.ensures (search (trying, cases) depth 12)

pub returns : goal.returns
unfolding cell_at
returns c = search (trying, cases) depth 12
