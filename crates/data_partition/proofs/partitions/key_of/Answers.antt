use Rattle.common.proofs.Choose.{cases}
use Rattle.data_partition.specs.Partitions.{key_of}
use Rattle.data_partition.proofs.partitions.key_of.Goals as goal

pub returns-then-len-eq0 : goal.returns-then-len-eq0
unfolding key_of
returns-then-len-eq0 c = search cases depth 12

pub returns : goal.returns
unfolding key_of
returns c = search cases depth 12
