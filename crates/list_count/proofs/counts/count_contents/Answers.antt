use Rattle.common.proofs.Said.{said_again, tried, failed}
use Rattle.call_check.proofs.Schemas.{tables}
use Rattle.list_count.proofs.Partitions.{passing}
use borrow.Author.Rules.{rules}
use Rattle.list_count.proofs.counts.count_contents.Goals as goal

pub returns : goal.returns
returns c = search (passing, tables, rules) depth 12

pub loop-p-smaller : goal.loop-p-smaller
loop-p-smaller c = search (passing, tables, rules, tried _ _ _ c.branch-next.ensures c.in_ok-next.is, tried _ _ _ c.branch-value.ensures c.in_ok-value.is) depth 12

pub count_entries-requires : goal.count_entries-requires
count_entries-requires c = search (tried _ _ _ c.branch-next.ensures c.in_ok-next.is, passing, tables, rules) depth 12

pub overflow_add-p : goal.overflow_add-p
overflow_add-p c = search (passing, tables, rules, tried _ _ _ c.branch-next.ensures c.in_ok-next.is, tried _ _ _ c.branch-value.ensures c.in_ok-value.is) depth 12

pub loop-p-preserved : goal.loop-p-preserved
loop-p-preserved c = search (passing, tables, rules, tried _ _ _ c.branch-next.ensures c.in_ok-next.is, tried _ _ _ c.branch-value.ensures c.in_ok-value.is) depth 12

pub returns-in_err-next : goal.returns-in_err-next
returns-in_err-next c = said_again _ _ _ c.from_residual.ensures (search (failed _ _ _ c.branch-next.ensures c.in_err-next.is, passing, tables, rules) depth 12)

pub returns-in_err-value : goal.returns-in_err-value
returns-in_err-value c = said_again _ _ _ c.from_residual-in_err-value.ensures (search (tried _ _ _ c.branch-next.ensures c.in_ok-next.is, failed _ _ _ c.branch-value.ensures c.in_err-value.is, passing, tables, rules) depth 12)
