use Rattle.common.proofs.Choose.{cases, told}
use Rattle.data_items.specs.Items.{end_item}
use Rattle.data_items.proofs.end_item.Goals as goal

pub returns : goal.returns
unfolding end_item
returns c = search (told, cases) depth 12
