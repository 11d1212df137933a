use Rattle.common.proofs.Choose.{cases, told}
use Rattle.data_items.specs.Items.{cell_flags}
use Rattle.data_items.proofs.cell_flags.Goals as goal

pub returns-then-len-eq0 : goal.returns-then-len-eq0
unfolding cell_flags
returns-then-len-eq0 c = search (told, cases) depth 12

pub returns-then-kind-eq1 : goal.returns-then-kind-eq1
unfolding cell_flags
returns-then-kind-eq1 c = search (told, cases) depth 12

pub returns-then-len-eq0-2 : goal.returns-then-len-eq0-2
unfolding cell_flags
returns-then-len-eq0-2 c = search (told, cases) depth 12

pub returns : goal.returns
unfolding cell_flags
returns c = search (told, cases) depth 12
