use Rattle.common.proofs.Choose.{cases, told}
use Rattle.data_items.specs.Items.{value_item}
use Rattle.data_items.proofs.value_item.Goals as goal

pub returns : goal.returns
unfolding value_item
returns c = search (told, cases) depth 12
