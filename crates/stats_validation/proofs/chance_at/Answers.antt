use Rattle.common.proofs.Choose.{cases}
use Rattle.common.proofs.Said.{trying, said_again}
use Rattle.stats_validation.specs.Validation.{chance_at}
use Rattle.stats_validation.proofs.chance_at.Goals as goal

pub returns-in_err-bits : goal.returns-in_err-bits
unfolding chance_at
returns-in_err-bits c = said_again _ _ _ c.from_residual.ensures (search (trying, cases) depth 12)

pub returns : goal.returns
unfolding chance_at
returns c = search (trying, cases) depth 12
