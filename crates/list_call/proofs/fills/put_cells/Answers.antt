use Rattle.list_call.proofs.PutCells.{putting}
use borrow.Author.Rules.{rules}
use Rattle.list_call.proofs.fills.put_cells.Goals as goal

pub loop-left-init : goal.loop-left-init
loop-left-init c = search (putting, rules) depth 12

pub bounds-c-column : goal.bounds-c-column
bounds-c-column c = search (putting, rules) depth 12

pub put_record-out-requires : goal.put_record-out-requires
put_record-out-requires c = search (putting, rules) depth 12

pub loop-left-preserved : goal.loop-left-preserved
loop-left-preserved c = search (putting, rules) depth 12

pub returns : goal.returns
returns c = search (putting, rules) depth 12

pub known_cell-next-requires : goal.known_cell-next-requires
known_cell-next-requires c = search (putting, rules) depth 12
