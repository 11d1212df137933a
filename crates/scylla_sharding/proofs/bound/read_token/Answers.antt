use Rattle.common.proofs.Choose.{cases}
use Rattle.common.proofs.Said.{trying, said_again}
use Rattle.scylla_sharding.proofs.Answers.{given}
use Rattle.scylla_sharding.specs.Bounds.{token_at}
use Rattle.scylla_sharding.proofs.bound.read_token.Goals as goal

pub returns-in_err-len : goal.returns-in_err-len
unfolding token_at
returns-in_err-len c = said_again _ _ _ c.from_residual.ensures (search (given, trying, cases) depth 12)

pub returns-in_err-bits : goal.returns-in_err-bits
unfolding token_at
returns-in_err-bits c = said_again _ _ _ c.from_residual-in_err-bits.ensures (search (given, trying, cases) depth 12)

pub returns-then-len-eq8 : goal.returns-then-len-eq8
unfolding token_at
returns-then-len-eq8 c = search (given, trying, cases) depth 12

pub returns : goal.returns
unfolding token_at
returns c = search (given, trying, cases) depth 12
