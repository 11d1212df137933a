use Rattle.common.proofs.Said.{said_again, tried, failed}
use Rattle.write_measure.proofs.Rows.{rows}
use Rattle.call_check.proofs.Schemas.{tables}
use borrow.Author.Rules.{rules}
use Rattle.write_measure.proofs.entries.measure_marker.Goals as goal

pub marker_len-size-requires : goal.marker_len-size-requires
marker_len-size-requires c = search (tried _ _ _ c.branch-item.ensures c.in_ok-item.is, tried _ _ _ c.branch-count.ensures c.in_ok-count.is, rows, tables, rules) depth 12

pub returns-in_err-item : goal.returns-in_err-item
returns-in_err-item c = said_again _ _ _ c.from_residual.ensures (search (failed _ _ _ c.branch-item.ensures c.in_err-item.is, rows, tables, rules) depth 12)

pub returns-in_err-count : goal.returns-in_err-count
returns-in_err-count c = said_again _ _ _ c.from_residual-in_err-count.ensures (search (tried _ _ _ c.branch-item.ensures c.in_ok-item.is, failed _ _ _ c.branch-count.ensures c.in_err-count.is, rows, tables, rules) depth 12)

pub returns : goal.returns
returns c = search (tried _ _ _ c.branch-item.ensures c.in_ok-item.is, tried _ _ _ c.branch-count.ensures c.in_ok-count.is, rows, tables, rules) depth 12
