use Rattle.common.proofs.Choose.{cases, told}
use Rattle.data_items.specs.Items.{partition_flags}
use Rattle.data_items.proofs.partition_flags.Goals as goal

pub returns-then-len-eq0 : goal.returns-then-len-eq0
unfolding partition_flags
returns-then-len-eq0 c = search (told, cases) depth 12

pub returns-then-deleted-eq0 : goal.returns-then-deleted-eq0
unfolding partition_flags
returns-then-deleted-eq0 c = search (told, cases) depth 12

pub returns-then-len-eq0-2 : goal.returns-then-len-eq0-2
unfolding partition_flags
returns-then-len-eq0-2 c = search (told, cases) depth 12

pub returns : goal.returns
unfolding partition_flags
returns c = search (told, cases) depth 12
