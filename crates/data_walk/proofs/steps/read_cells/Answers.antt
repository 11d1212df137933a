use Rattle.data_walk.proofs.Said.{moves}
use Rattle.common.proofs.Choose.{cases}
use Rattle.data_walk.proofs.Bounds.{next_width, next_below}
use Rattle.data_walk.specs.Steps.{cells_step}
use borrow.Author.Rules.{rules}
use Rattle.data_walk.proofs.steps.read_cells.Goals as goal

pub returns-then-x-hand : goal.returns-then-x-hand
unfolding cells_step
returns-then-x-hand c = search (moves, cases) depth 12

pub returns-then-left-eq0 : goal.returns-then-left-eq0
unfolding cells_step
returns-then-left-eq0 c = search (moves, cases) depth 12

pub read_cell-requires : goal.read_cell-requires
read_cell-requires c = search (next_width, next_below, rules)

pub returns : goal.returns
unfolding cells_step
returns c = search (moves, cases) depth 12
