use Rattle.common.proofs.Said.{said_again, tried}
use Rattle.write_measure_parts.proofs.Cells.{celling}
use borrow.Author.Rules.{rules}
use Rattle.write_measure_parts.proofs.parts.measure_cells.Goals as goal

pub loop-i-init : goal.loop-i-init
loop-i-init c = search (celling, rules) depth 12

pub cell_column-j-requires : goal.cell_column-j-requires
cell_column-j-requires c = search (celling, rules) depth 12

pub columns_from-requires : goal.columns_from-requires
columns_from-requires c = search (celling, rules) depth 12

pub overflow_add-result : goal.overflow_add-result
overflow_add-result c = search (celling, rules) depth 12

pub returns-then-j-i : goal.returns-then-j-i
returns-then-j-i c = search (celling, rules) depth 12

pub columns_from-requires-then-k-j : goal.columns_from-requires-then-k-j
columns_from-requires-then-k-j c = search (celling, rules) depth 12

pub overflow_add-result-then-k-j : goal.overflow_add-result-then-k-j
overflow_add-result-then-k-j c = search (celling, rules) depth 12

pub returns-then-k-j : goal.returns-then-k-j
returns-then-k-j c = search (celling, rules) depth 12

pub overflow_mul-width : goal.overflow_mul-width
overflow_mul-width c = search (celling, rules) depth 12

pub overflow_add-width : goal.overflow_add-width
overflow_add-width c = search (celling, rules) depth 12

pub overflow_add-width-in-loop-i : goal.overflow_add-width-in-loop-i
overflow_add-width-in-loop-i c = search (celling, rules) depth 12

pub bounds-c-base : goal.bounds-c-base
bounds-c-base c = search (celling, rules) depth 12

pub read_cell-requires : goal.read_cell-requires
read_cell-requires c = search (celling, rules) depth 12

pub columns_from-missing-requires : goal.columns_from-missing-requires
columns_from-missing-requires c = search (celling, rules) depth 12

pub overflow_add-missing : goal.overflow_add-missing
overflow_add-missing c = search (celling, rules) depth 12

pub cell_of-cell-requires : goal.cell_of-cell-requires
cell_of-cell-requires c = search (celling, rules) depth 12

pub overflow_add-size : goal.overflow_add-size
overflow_add-size c = search (celling, rules) depth 12

pub overflow_add-i : goal.overflow_add-i
overflow_add-i c = search (celling, rules) depth 12

pub loop-i-preserved : goal.loop-i-preserved
loop-i-preserved c = search (celling, rules) depth 12

pub returns-in_err-item : goal.returns-in_err-item
returns-in_err-item c = said_again _ _ _ c.from_residual.ensures (search (celling, rules) depth 12)

pub loop-i-smaller : goal.loop-i-smaller
loop-i-smaller c = search (tried _ _ _ c.branch-item.ensures c.in_ok-item.is, celling, rules) depth 12

pub cell_len-size-requires : goal.cell_len-size-requires
cell_len-size-requires c = search (tried _ _ _ c.branch-item.ensures c.in_ok-item.is, celling, rules) depth 12
