use Rattle.write_store.proofs.PutRows.{knowns, plains}
use Rattle.call_check.proofs.Schemas.{tables}
use borrow.Author.Rules.{rules}
use Rattle.write_store.proofs.entries.put_row_cells.Goals as goal

pub size_cells-requires : goal.size_cells-requires
size_cells-requires c = search (knowns, rules) depth 12

pub overflow_sub-many : goal.overflow_sub-many
overflow_sub-many c = search (plains, tables, rules) depth 12

pub put_plain-out-requires : goal.put_plain-out-requires
put_plain-out-requires c = (
  search (rules) depth 12,
  search (tables, rules) depth 12,
  search (tables, rules) depth 12,
  search (plains, tables, rules) depth 12,
  search (rules) depth 12,
  search (plains, tables, rules) depth 12,
  search (plains, tables, rules) depth 12,
)

pub returns : goal.returns
returns c = search (plains, tables, rules) depth 12

pub returns-in_default : goal.returns-in_default
returns-in_default c = search (plains, tables, rules) depth 12
