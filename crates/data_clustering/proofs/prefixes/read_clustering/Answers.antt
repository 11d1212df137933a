use Rattle.common.proofs.Choose.{cases, told}
use Rattle.common.proofs.Said.{reading}
use Rattle.data_clustering.specs.Prefixes.{clustering_at}
use Rattle.data_clustering.proofs.prefixes.read_clustering.Goals as goal

pub returns-then-header-eq1 : goal.returns-then-header-eq1
unfolding clustering_at
returns-then-header-eq1 c = search (reading, told, cases) depth 12

pub returns : goal.returns
unfolding clustering_at
returns c = search (reading, told, cases) depth 12
