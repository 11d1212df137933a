use Rattle.data_walk.proofs.Said.{moves}
use Rattle.common.proofs.Choose.{cases}
use Rattle.data_walk.proofs.Bounds.{values_width, values_below}
use Rattle.data_walk.proofs.Said.{handed_as}
use Rattle.data_walk.specs.Steps.{values_answer}
use borrow.Author.Rules.{rules}
use Rattle.data_walk.proofs.steps.step_values.Goals as goal

pub returns-then-is_bad_values : goal.returns-then-is_bad_values
unfolding values_answer
returns-then-is_bad_values c = search (moves, cases) depth 12

pub read_value-requires : goal.read_value-requires
read_value-requires c = search (values_width, values_below, rules)

pub returns : goal.returns
unfolding values_answer
returns c = search (moves, handed_as, cases) depth 12
