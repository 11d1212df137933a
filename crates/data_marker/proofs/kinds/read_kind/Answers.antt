use Rattle.common.proofs.Choose.{cases, told}
use Rattle.common.proofs.Said.{trying, said_again}
use Rattle.data_marker.specs.Kinds.{kind_at}
use Rattle.data_marker.proofs.kinds.read_kind.Goals as goal

pub returns-then-bad_kind : goal.returns-then-bad_kind
unfolding kind_at
returns-then-bad_kind c = search (trying, told, cases) depth 12

pub returns-then-out_of_turn : goal.returns-then-out_of_turn
unfolding kind_at
returns-then-out_of_turn c = search (trying, told, cases) depth 12

pub returns-in_err-value : goal.returns-in_err-value
unfolding kind_at
returns-in_err-value c = said_again _ _ _ c.from_residual.ensures (search (trying, cases) depth 12)

pub returns : goal.returns
unfolding kind_at
returns c = search (trying, told, cases) depth 12
