use Rattle.write_store.proofs.PutRows.{knowns, statics}
use Rattle.call_check.proofs.Schemas.{tables}
use borrow.Author.Rules.{rules}
use Rattle.write_store.proofs.entries.put_static.Goals as goal

pub size_cells-requires : goal.size_cells-requires
size_cells-requires c = search (knowns, rules) depth 12

pub overflow_sub-many : goal.overflow_sub-many
overflow_sub-many c = search (statics, tables, rules) depth 12

pub put_fixed-out-requires : goal.put_fixed-out-requires
put_fixed-out-requires c = (
  search (statics, tables, rules) depth 12,
  search (statics, tables, rules) depth 12,
  search (statics, tables, rules) depth 12,
  search (statics, tables, rules) depth 12,
)

pub returns : goal.returns
returns c = search (statics, tables, rules) depth 12

pub returns-in_default : goal.returns-in_default
returns-in_default c = search (statics, tables, rules) depth 12
