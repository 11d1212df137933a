use Rattle.write_store.proofs.PutRows.{knowns, markers}
use Rattle.call_check.proofs.Schemas.{tables}
use borrow.Author.Rules.{rules}
use Rattle.write_store.proofs.entries.put_marker.Goals as goal

pub size_clustering-requires : goal.size_clustering-requires
size_clustering-requires c = search (knowns, rules) depth 12

pub put_bound-out-requires : goal.put_bound-out-requires
put_bound-out-requires c = (
  search (markers, tables, rules) depth 12,
  search (markers, tables, rules) depth 12,
  search (markers, tables, rules) depth 12,
  search (markers, tables, rules) depth 12,
  search (markers, tables, rules) depth 12,
)

pub returns : goal.returns
returns c = search (markers, tables, rules) depth 12

pub returns-in_default : goal.returns-in_default
returns-in_default c = search (markers, tables, rules) depth 12
