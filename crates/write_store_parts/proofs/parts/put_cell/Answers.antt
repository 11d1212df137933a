use Rattle.write_store_parts.proofs.PutCells.{one_cell}
use borrow.Author.Rules.{rules}
use Rattle.write_store_parts.proofs.parts.put_cell.Goals as goal

pub overflow_add-j : goal.overflow_add-j
overflow_add-j c = search (one_cell, rules) depth 12

pub bounds-s-at : goal.bounds-s-at
bounds-s-at c = search (one_cell, rules) depth 12

pub overflow_cast-j : goal.overflow_cast-j
overflow_cast-j c = search (one_cell, rules) depth 12

pub overflow_mul-width : goal.overflow_mul-width
overflow_mul-width c = search (one_cell, rules) depth 12

pub overflow_add-width : goal.overflow_add-width
overflow_add-width c = search (one_cell, rules) depth 12

pub overflow_add-width-2 : goal.overflow_add-width-2
overflow_add-width-2 c = search (one_cell, rules) depth 12

pub bounds-c-base : goal.bounds-c-base
bounds-c-base c = search (one_cell, rules) depth 12

pub cell_at-cell-requires : goal.cell_at-cell-requires
cell_at-cell-requires c = search (one_cell, rules) depth 12

pub put_cell-requires : goal.put_cell-requires
put_cell-requires c = search (one_cell, rules) depth 12

pub returns : goal.returns
returns c = search (one_cell, rules) depth 12
