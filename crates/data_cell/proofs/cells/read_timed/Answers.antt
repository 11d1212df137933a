use Rattle.common.proofs.Choose.{cases}
use Rattle.common.proofs.Said.{trying, said_again}
use Rattle.data_cell.proofs.Parts.{parts}
use Rattle.data_cell.proofs.cells.read_timed.Goals as goal

pub returns-in_err-value : goal.returns-in_err-value
returns-in_err-value c = said_again _ _ _ c.from_residual.ensures (search (parts, trying, cases) depth 12)

pub returns : goal.returns
returns c = search (parts, trying, cases) depth 12
