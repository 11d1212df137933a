use Rattle.common.proofs.Choose.{cases, told}
use Rattle.data_items.specs.Items.{mark_of}
use Rattle.data_items.proofs.mark_of.Goals as goal

pub returns-then-d-eq0 : goal.returns-then-d-eq0
unfolding mark_of
returns-then-d-eq0 c = search (told, cases) depth 12

pub returns : goal.returns
unfolding mark_of
returns c = search (told, cases) depth 12
