use Rattle.common.proofs.Choose.{cases}
use Rattle.data_walk.specs.Steps.{lacking}
use Rattle.data_walk.proofs.steps.is_lacking.Goals as goal

pub returns-then-fixed : goal.returns-then-fixed
unfolding lacking
returns-then-fixed c = search (cases) depth 12

pub returns : goal.returns
unfolding lacking
returns c = search (cases) depth 12
