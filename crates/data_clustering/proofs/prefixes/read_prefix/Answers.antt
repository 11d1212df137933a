use Rattle.common.proofs.Choose.{cases}
use Rattle.common.proofs.Said.{trying, places, said_again}
use Rattle.data_clustering.proofs.Loops.{header_of_lem}
use Rattle.data_clustering.specs.Prefixes.{prefix_at}
use Rattle.data_clustering.proofs.prefixes.read_prefix.Goals as goal

pub returns-in_err-value : goal.returns-in_err-value
unfolding prefix_at
returns-in_err-value c = said_again _ _ _ c.from_residual.ensures (search (trying, cases, header_of_lem) depth 12)

pub returns-in_err-after : goal.returns-in_err-after
unfolding prefix_at
returns-in_err-after c = said_again _ _ _ c.from_residual-in_err-after.ensures (search (trying, places, cases, header_of_lem) depth 12)

pub returns : goal.returns
unfolding prefix_at
returns c = search (trying, places, cases, header_of_lem) depth 12
