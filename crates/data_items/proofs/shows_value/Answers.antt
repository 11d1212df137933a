use Rattle.data_items.specs.Items.{shows_value}
use Rattle.common.proofs.Choose.{cases, told}
use Rattle.data_items.proofs.shows_value.Goals as goal

pub returns-then-kind-eq1 : goal.returns-then-kind-eq1
unfolding shows_value
returns-then-kind-eq1 c = search (told, cases) depth 12

pub returns-then-kind-eq5 : goal.returns-then-kind-eq5
unfolding shows_value
returns-then-kind-eq5 c = search (told, cases) depth 12

pub returns : goal.returns
unfolding shows_value
returns c = search (told, cases) depth 12
