use Rattle.write_store.proofs.PutRows.{knowns, rows}
use Rattle.call_check.proofs.Schemas.{tables}
use borrow.Author.Rules.{rules}
use Rattle.write_store.proofs.entries.put_row.Goals as goal

pub size_clustering-requires : goal.size_clustering-requires
size_clustering-requires c = search (knowns, rules) depth 12

pub put_row_cells-requires : goal.put_row_cells-requires
put_row_cells-requires c = (
  search (rules) depth 12,
  search (rules) depth 12,
  search (rules) depth 12,
  search (rows, rules) depth 12,
  search (rows, rules) depth 12,
  search (rows, rules) depth 12,
  search (rows, rules) depth 12,
)

pub returns : goal.returns
returns c = search (rows, tables, rules) depth 12

pub returns-in_default : goal.returns-in_default
returns-in_default c = search (rows, tables, rules) depth 12
