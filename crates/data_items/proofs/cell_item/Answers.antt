use Rattle.common.proofs.Choose.{cases, told}
use Rattle.data_items.specs.Items.{cell_item}
use Rattle.data_items.proofs.cell_item.Goals as goal

pub returns-then-cell-eq2 : goal.returns-then-cell-eq2
unfolding cell_item
returns-then-cell-eq2 c = search (told, cases) depth 12

pub returns : goal.returns
unfolding cell_item
returns c = search (told, cases) depth 12
