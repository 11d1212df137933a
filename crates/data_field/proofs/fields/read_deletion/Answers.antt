use Rattle.common.proofs.Choose.{cases}
use Rattle.common.proofs.Said.{trying, said_again}
use Rattle.data_field.specs.Fields.{deletion_at}
use Rattle.data_field.proofs.fields.read_deletion.Goals as goal

pub returns-in_err-mark : goal.returns-in_err-mark
unfolding deletion_at
returns-in_err-mark c = said_again _ _ _ c.from_residual.ensures (search (trying, cases) depth 12)

pub returns-in_err-local : goal.returns-in_err-local
unfolding deletion_at
returns-in_err-local c = said_again _ _ _ c.from_residual-in_err-local.ensures (search (trying, cases) depth 12)

pub returns : goal.returns
unfolding deletion_at
returns c = search (trying, cases) depth 12
