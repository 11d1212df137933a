use Rattle.data_items.specs.Items.{value_of}
use Rattle.common.proofs.Choose.{cases, told}
use Rattle.data_items.proofs.Item.value.Goals as goal

pub returns-then-shows_value : goal.returns-then-shows_value
unfolding value_of
returns-then-shows_value c = search (told, cases) depth 12

pub returns : goal.returns
unfolding value_of
returns c = search (told, cases) depth 12
