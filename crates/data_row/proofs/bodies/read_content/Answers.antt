use Rattle.common.proofs.Choose.{cases}
use Rattle.common.proofs.Said.{trying, said_again}
use Rattle.data_row.specs.Bodies.{content_at}
use Rattle.data_row.proofs.bodies.read_content.Goals as goal

pub returns-in_err-times : goal.returns-in_err-times
unfolding content_at
returns-in_err-times c = said_again _ _ _ c.from_residual.ensures (search (trying, cases) depth 12)

pub returns-in_err-deletion : goal.returns-in_err-deletion
unfolding content_at
returns-in_err-deletion c = said_again _ _ _ c.from_residual-in_err-deletion.ensures (search (trying, cases) depth 12)

pub returns-in_err-present : goal.returns-in_err-present
unfolding content_at
returns-in_err-present c = said_again _ _ _ c.from_residual-in_err-present.ensures (search (trying, cases) depth 12)

pub returns : goal.returns
unfolding content_at
returns c = search (trying, cases) depth 12
