use Rattle.common.proofs.Choose.{cases}
use Rattle.data_walk.specs.Steps.{columns_of}
use Rattle.data_walk.proofs.steps.columns_of.Goals as goal

pub returns-then-fixed : goal.returns-then-fixed
unfolding columns_of
returns-then-fixed c = search (cases) depth 12

pub returns : goal.returns
unfolding columns_of
returns c = search (cases) depth 12
