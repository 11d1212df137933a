use Rattle.common.proofs.Said.{said_again, tried, failed}
use Rattle.call_check.proofs.Schemas.{tables}
use Rattle.list_count.proofs.Rows.{rows}
use borrow.Author.Rules.{rules}
use Rattle.list_count.proofs.counts.count_row.Goals as goal

pub returns-then-row-eq1 : goal.returns-then-row-eq1
returns-then-row-eq1 c = search (rows, tables, rules) depth 12

pub returns : goal.returns
returns c = search (rows, tables, rules) depth 12

pub returns-in_err-row : goal.returns-in_err-row
returns-in_err-row c = said_again _ _ _ c.from_residual.ensures (search (failed _ _ _ c.branch-row.ensures c.in_err-row.is, rows, tables, rules) depth 12)

pub count_cells-requires-2 : goal.count_cells-requires-2
count_cells-requires-2 c = search (tried _ _ _ c.branch-row.ensures c.in_ok-row.is, rows, tables, rules) depth 12

pub count_cells-requires : goal.count_cells-requires
count_cells-requires c = search (tried _ _ _ c.branch-row.ensures c.in_ok-row.is, rows, tables, rules) depth 12
