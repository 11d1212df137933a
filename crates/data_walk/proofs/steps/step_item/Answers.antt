use Rattle.data_walk.proofs.Said.{moves}
use Rattle.common.proofs.Choose.{cases}
use Rattle.data_walk.proofs.Said.{handed_as}
use Rattle.data_walk.specs.Steps.{item_answer}
use Rattle.data_walk.proofs.steps.step_item.Goals as goal

pub returns-then-s-x : goal.returns-then-s-x
unfolding item_answer
returns-then-s-x c = search (moves, cases) depth 12

pub returns : goal.returns
unfolding item_answer
returns c = search (moves, handed_as, cases) depth 12
