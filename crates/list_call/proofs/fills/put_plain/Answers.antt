use Rattle.call_check.proofs.Schemas.{tables}
use Rattle.list_call.proofs.PutRows.{plains}
use borrow.Author.Rules.{rules}
use Rattle.list_call.proofs.fills.put_plain.Goals as goal

pub put_record-out-requires : goal.put_record-out-requires
put_record-out-requires c = search (plains, tables, rules) depth 12

pub put_values-cells-requires : goal.put_values-cells-requires
put_values-cells-requires c = search (plains, tables, rules) depth 12

pub put_cells-requires : goal.put_cells-requires
put_cells-requires c = search (plains, tables, rules) depth 12

pub returns : goal.returns
returns c = search (plains, tables, rules) depth 12
