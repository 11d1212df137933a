use Rattle.data_walk.proofs.Said.{moves}
use Rattle.common.proofs.Choose.{cases}
use Rattle.data_walk.proofs.Bounds.{prefix_width, prefix_below}
use Rattle.data_walk.proofs.Said.{handed_as}
use Rattle.data_walk.specs.Steps.{prefix_answer}
use borrow.Author.Rules.{rules}
use Rattle.data_walk.proofs.steps.step_prefix.Goals as goal

pub returns-then-is_bad_prefix : goal.returns-then-is_bad_prefix
unfolding prefix_answer
returns-then-is_bad_prefix c = search (moves, cases) depth 12

pub read_value-requires : goal.read_value-requires
read_value-requires c = search (prefix_width, prefix_below, rules)

pub returns : goal.returns
unfolding prefix_answer
returns c = search (moves, handed_as, cases) depth 12
