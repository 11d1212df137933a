use Rattle.common.proofs.Choose.{cases, told}
use Rattle.data_items.specs.Items.{time_of}
use Rattle.data_items.proofs.time_of.Goals as goal

pub returns-then-t-eq0 : goal.returns-then-t-eq0
unfolding time_of
returns-then-t-eq0 c = search (told, cases) depth 12

pub returns : goal.returns
unfolding time_of
returns c = search (told, cases) depth 12
