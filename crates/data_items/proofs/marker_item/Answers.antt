use Rattle.common.proofs.Choose.{cases, told}
use Rattle.data_items.specs.Items.{marker_item}
use Rattle.data_items.proofs.marker_item.Goals as goal

pub returns : goal.returns
unfolding marker_item
returns c = search (told, cases) depth 12
