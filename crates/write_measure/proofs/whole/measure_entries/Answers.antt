use Rattle.common.proofs.Said.{said_again, tried, failed}
use Rattle.write_measure.proofs.Loops.{entering}
use borrow.Author.Rules.{rules}
use Rattle.write_measure.proofs.whole.measure_entries.Goals as goal

pub loop-kind-init : goal.loop-kind-init
loop-kind-init c = search (entering, rules) depth 12

pub kind_at-requires : goal.kind_at-requires
kind_at-requires c = search (entering, rules) depth 12

pub measure_end-requires : goal.measure_end-requires
measure_end-requires c = search (entering, rules) depth 12

pub returns-then-kind-eq7 : goal.returns-then-kind-eq7
returns-then-kind-eq7 c = search (tried _ _ _ c.branch-kind.ensures c.in_ok-kind.is, entering, rules) depth 12

pub measure_entry-requires : goal.measure_entry-requires
measure_entry-requires c = search (entering, rules) depth 12

pub overflow_add-sum : goal.overflow_add-sum
overflow_add-sum c = search (tried _ _ _ c.branch-kind.ensures c.in_ok-kind.is, tried _ _ _ c.branch-after.ensures c.in_ok-after.is, entering, rules) depth 12

pub loop-kind-smaller : goal.loop-kind-smaller
loop-kind-smaller c = search (tried _ _ _ c.branch-kind.ensures c.in_ok-kind.is, tried _ _ _ c.branch-after.ensures c.in_ok-after.is, entering, rules) depth 12

pub loop-kind-preserved : goal.loop-kind-preserved
loop-kind-preserved c = search (tried _ _ _ c.branch-kind.ensures c.in_ok-kind.is, tried _ _ _ c.branch-after.ensures c.in_ok-after.is, entering, rules) depth 12

pub returns-in_err-kind : goal.returns-in_err-kind
returns-in_err-kind c = said_again _ _ _ c.from_residual.ensures (search (failed _ _ _ c.branch-kind.ensures c.in_err-kind.is, entering, rules) depth 12)

pub returns-in_err-after : goal.returns-in_err-after
returns-in_err-after c = said_again _ _ _ c.from_residual-in_err-after.ensures (search (tried _ _ _ c.branch-kind.ensures c.in_ok-kind.is, failed _ _ _ c.branch-after.ensures c.in_err-after.is, entering, rules) depth 12)
