use Rattle.call_check.proofs.Schemas.{tables}
use Rattle.list_call.proofs.PutRows.{statics}
use borrow.Author.Rules.{rules}
use Rattle.list_call.proofs.fills.put_static.Goals as goal

pub put_record-out-requires : goal.put_record-out-requires
put_record-out-requires c = search (statics, tables, rules) depth 12

pub put_cells-requires : goal.put_cells-requires
put_cells-requires c = search (statics, tables, rules) depth 12

pub returns : goal.returns
returns c = search (statics, tables, rules) depth 12
