use Rattle.common.proofs.Said.{again, tried, failed}
use Rattle.list.proofs.Paths.{first_bytes, first_schema}
use Rattle.list.proofs.Begins.{counted_listing, counted_refused}
use borrow.Author.Rules.{rules}
use Rattle.list.proofs.report.count.Goals as goal

pub slice_bounds-count-end : goal.slice_bounds-count-end
slice_bounds-count-end c = search (first_schema, rules)

pub returns-in_err-count-clause-schema_value : goal.returns-in_err-count-clause-schema_value
returns-in_err-count-clause-schema_value c =
    rw (again _ _ c.from_residual.ensures) (search (first_bytes, counted_refused, rules, failed _ _ _ c.branch-count.ensures c.in_err-count.is))

pub returns-clause-schema_value : goal.returns-clause-schema_value
returns-clause-schema_value c = search (counted_listing, rules, tried _ _ _ c.branch-count.ensures c.in_ok-count.is)
