use Rattle.common.proofs.Said.{said_again, tried, failed}
use Rattle.call_check.proofs.Schemas.{tables}
use Rattle.list_count.proofs.Markers.{markers}
use borrow.Author.Rules.{rules}
use Rattle.list_count.proofs.counts.count_marker.Goals as goal

pub overflow_add-result-2 : goal.overflow_add-result-2
overflow_add-result-2 c = search (markers, tables, rules) depth 12

pub returns-in_err-marker : goal.returns-in_err-marker
returns-in_err-marker c = said_again _ _ _ c.from_residual.ensures (search (failed _ _ _ c.branch-marker.ensures c.in_err-marker.is, markers, tables, rules) depth 12)

pub returns : goal.returns
returns c = search (tried _ _ _ c.branch-marker.ensures c.in_ok-marker.is, markers, tables, rules) depth 12
