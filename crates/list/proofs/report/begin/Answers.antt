use Rattle.common.proofs.Said.{again, tried, failed}
use mathlib.Core.Path.{refl}
use Rattle.list.proofs.Begins.{begins}
use borrow.Author.Rules.{rules}
use Rattle.list.proofs.report.begin.Goals as goal

pub record_bytes-len-requires : goal.record_bytes-len-requires
record_bytes-len-requires c = search (begins, rules, tried _ _ _ c.branch-table.ensures c.in_ok-table.is) depth 8

pub count-requires : goal.count-requires
count-requires c = search (begins, refl, rules, tried _ _ _ c.branch-table.ensures c.in_ok-table.is) depth 8

pub returns-in_err-table-clause-schema_after : goal.returns-in_err-table-clause-schema_after
returns-in_err-table-clause-schema_after c = rw (again _ _ c.from_residual.ensures) (search (begins, rules, failed _ _ _ c.branch-table.ensures c.in_err-table.is) depth 8)

pub returns-clause-schema_after : goal.returns-clause-schema_after
returns-clause-schema_after c = search (begins, rules, tried _ _ _ c.branch-table.ensures c.in_ok-table.is) depth 8
