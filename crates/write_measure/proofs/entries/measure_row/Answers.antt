use Rattle.common.proofs.Said.{said_again, tried, failed}
use Rattle.write_measure.proofs.Rows.{rows}
use Rattle.call_check.proofs.Schemas.{tables}
use borrow.Author.Rules.{rules}
use Rattle.write_measure.proofs.entries.measure_row.Goals as goal

pub measure_row_rest-requires : goal.measure_row_rest-requires
measure_row_rest-requires c = search (tried _ _ _ c.branch-item.ensures c.in_ok-item.is, rows, tables, rules) depth 12

pub returns-in_err-item : goal.returns-in_err-item
returns-in_err-item c = said_again _ _ _ c.from_residual.ensures (search (failed _ _ _ c.branch-item.ensures c.in_err-item.is, rows, tables, rules) depth 12)

pub returns : goal.returns
returns c = search (tried _ _ _ c.branch-item.ensures c.in_ok-item.is, rows, tables, rules) depth 12
