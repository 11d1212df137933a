use Rattle.common.proofs.Choose.{cases}
use Rattle.data_walk.specs.Steps.{columns_at}
use Rattle.data_walk.proofs.steps.columns_at.Goals as goal

pub returns-then-fixed : goal.returns-then-fixed
unfolding columns_at
returns-then-fixed c = search (cases) depth 12

pub returns : goal.returns
unfolding columns_at
returns c = search (cases) depth 12
