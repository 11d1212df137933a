use Rattle.common.proofs.Choose.{cases, told}
use Rattle.common.proofs.Said.{trying, said_again}
use Rattle.data_cell.proofs.Parts.{parts}
use Rattle.data_cell.specs.Cells.{content_at}
use Rattle.data_cell.proofs.cells.read_content.Goals as goal

pub returns-in_err-local : goal.returns-in_err-local
unfolding content_at
returns-in_err-local c = said_again _ _ _ c.from_residual.ensures (search (trying, told, cases) depth 12)

pub returns-then-f-eq1 : goal.returns-then-f-eq1
unfolding content_at
returns-then-f-eq1 c = search (trying, told, cases) depth 12

pub returns-in_err-kind : goal.returns-in_err-kind
returns-in_err-kind c = said_again _ _ _ c.from_residual-in_err-kind.ensures (search (parts, trying, told, cases) depth 12)

pub returns : goal.returns
returns c = search (parts, trying, told, cases) depth 12
