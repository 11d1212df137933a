use Rattle.common.proofs.Choose.{cases, told}
use Rattle.common.proofs.Said.{trying, said_again}
use Rattle.data_marker.specs.Markers.{deletions_at}
use Rattle.data_marker.proofs.markers.read_deletions.Goals as goal

pub returns-then-next-end : goal.returns-then-next-end
unfolding deletions_at
returns-then-next-end c = search (trying, cases) depth 12

pub returns-in_err-first : goal.returns-in_err-first
unfolding deletions_at
returns-in_err-first c = said_again _ _ _ c.from_residual.ensures (search (trying, cases) depth 12)

pub returns-in_err-second : goal.returns-in_err-second
unfolding deletions_at
returns-in_err-second c = said_again _ _ _ c.from_residual-in_err-second.ensures (search (trying, cases) depth 12)

pub returns : goal.returns
unfolding deletions_at
returns c = search (trying, told, cases) depth 12
