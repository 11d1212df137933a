use Rattle.common.proofs.Said.{said_again, tried, failed}
use Rattle.call_check.proofs.Schemas.{tables}
use Rattle.list_count.proofs.Entries.{entering}
use borrow.Author.Rules.{rules}
use Rattle.list_count.proofs.counts.count_entries.Goals as goal

pub returns-in_err-after : goal.returns-in_err-after
returns-in_err-after c = said_again _ _ _ c.from_residual-in_err-after.ensures (search (tried _ _ _ c.branch-value.ensures c.in_ok-value.is, failed _ _ _ c.branch-after.ensures c.in_err-after.is, entering, tables, rules) depth 12)

pub returns-in_err-more : goal.returns-in_err-more
returns-in_err-more c = said_again _ _ _ c.from_residual-in_err-more.ensures (search (tried _ _ _ c.branch-value.ensures c.in_ok-value.is, failed _ _ _ c.branch-more.ensures c.in_err-more.is, entering, tables, rules) depth 12)

pub loop-value-smaller : goal.loop-value-smaller
loop-value-smaller c = search (tried _ _ _ c.branch-value.ensures c.in_ok-value.is, tried _ _ _ c.branch-more.ensures c.in_ok-more.is, entering, tables, rules) depth 12

pub loop-value-smaller-then-value-eq2 : goal.loop-value-smaller-then-value-eq2
loop-value-smaller-then-value-eq2 c = search (tried _ _ _ c.branch-value.ensures c.in_ok-value.is, tried _ _ _ c.branch-after.ensures c.in_ok-after.is, entering, tables, rules) depth 12

pub returns-then-value-eq1 : goal.returns-then-value-eq1
returns-then-value-eq1 c = search (tried _ _ _ c.branch-value.ensures c.in_ok-value.is, entering, tables, rules) depth 12

pub returns-in_err-value : goal.returns-in_err-value
returns-in_err-value c = said_again _ _ _ c.from_residual.ensures (search (failed _ _ _ c.branch-value.ensures c.in_err-value.is, entering, tables, rules) depth 12)

pub loop-value-preserved : goal.loop-value-preserved
loop-value-preserved c = search (tried _ _ _ c.branch-value.ensures c.in_ok-value.is, tried _ _ _ c.branch-more.ensures c.in_ok-more.is, entering, tables, rules) depth 12

pub loop-value-preserved-then-value-eq2 : goal.loop-value-preserved-then-value-eq2
loop-value-preserved-then-value-eq2 c = search (tried _ _ _ c.branch-value.ensures c.in_ok-value.is, tried _ _ _ c.branch-after.ensures c.in_ok-after.is, entering, tables, rules) depth 12
