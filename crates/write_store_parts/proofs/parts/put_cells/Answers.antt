use Rattle.write_store_parts.proofs.PutCells.{celling}
use borrow.Author.Rules.{rules}
use Rattle.write_store_parts.proofs.parts.put_cells.Goals as goal

pub loop-init : goal.loop-init
loop-init c = search (celling, rules) depth 12

pub put_cell-out-requires : goal.put_cell-out-requires
put_cell-out-requires c = search (celling, rules) depth 12

pub overflow_add-p : goal.overflow_add-p
overflow_add-p c = search (celling, rules) depth 12

pub loop-preserved : goal.loop-preserved
loop-preserved c = search (celling, rules) depth 12

pub shape_of-d : goal.shape_of-d
shape_of-d c = search (celling, rules) depth 12

pub returns : goal.returns
returns c = search (celling, rules) depth 12
