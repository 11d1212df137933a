use Rattle.data_walk.proofs.Said.{moves}
use Rattle.common.proofs.Choose.{cases}
use mathlib.Core.Path.{refl}
use Rattle.data_walk.proofs.Bounds.{cells_column, cells_present}
use Rattle.data_walk.proofs.Said.{handed_as}
use Rattle.data_walk.specs.Steps.{cells_answer}
use borrow.Author.Rules.{rules}
use Rattle.data_walk.proofs.steps.step_cells.Goals as goal

pub returns-then-is_bad_cells : goal.returns-then-is_bad_cells
unfolding cells_answer
returns-then-is_bad_cells c = search (moves, cases) depth 12

pub read_cells-requires : goal.read_cells-requires
read_cells-requires c = search (cells_column, cells_present, refl, rules)

pub returns : goal.returns
unfolding cells_answer
returns c = search (moves, handed_as, cases) depth 12
