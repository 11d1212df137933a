use Rattle.common.proofs.Choose.{cases}
use Rattle.write_form.specs.Partitions.{header_local}
use Rattle.write_sizes.proofs.partitions.header_local.Goals as goal

pub returns-then-deletion-eq0 : goal.returns-then-deletion-eq0
unfolding header_local
returns-then-deletion-eq0 c = search cases depth 12

pub returns : goal.returns
unfolding header_local
returns c = search cases depth 12
