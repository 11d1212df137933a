use Rattle.common.proofs.Choose.{cases, told}
use Rattle.data_items.specs.Items.{row_item}
use Rattle.data_items.proofs.row_item.Goals as goal

pub returns : goal.returns
unfolding row_item
returns c = search (told, cases) depth 12
