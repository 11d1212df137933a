use Rattle.common.proofs.Choose.{cases, told}
use Rattle.data_items.specs.Items.{partition_item}
use Rattle.data_items.proofs.partition_item.Goals as goal

pub returns : goal.returns
unfolding partition_item
returns c = search (told, cases) depth 12
