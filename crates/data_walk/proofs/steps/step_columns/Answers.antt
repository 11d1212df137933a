use Rattle.data_walk.proofs.Said.{moves}
use Rattle.common.proofs.Choose.{cases}
use Rattle.data_walk.proofs.Columns.{columns}
use Rattle.call_check.proofs.Schemas.{tables}
use Rattle.data_walk.specs.Steps.{columns_answer}
use borrow.Author.Rules.{rules}
use Rattle.data_walk.proofs.steps.step_columns.Goals as goal

pub returns-then-is_lacking : goal.returns-then-is_lacking
unfolding columns_answer
returns-then-is_lacking c = search (moves, cases) depth 12

pub step_cells-requires : goal.step_cells-requires
step_cells-requires c = search (columns, tables, rules)

pub returns : goal.returns
unfolding columns_answer
returns c = search (moves, cases) depth 12
