use Rattle.stats_file.proofs.Times.{local_sum}
use Rattle.stats_file.proofs.bases.local_of.Goals as goal

pub returns : goal.returns
returns c = local_sum _
