use Rattle.common.proofs.Said.{said_again, tried, failed}
use Rattle.write_measure.proofs.Loops.{passing}
use borrow.Author.Rules.{rules}
use Rattle.write_measure.proofs.whole.measure_contents.Goals as goal

pub loop-p-init : goal.loop-p-init
loop-p-init c = search (passing, rules) depth 12

pub read_record-requires : goal.read_record-requires
read_record-requires c = search (passing, rules) depth 12

pub overflow_add-head : goal.overflow_add-head
overflow_add-head c = search (tried _ _ _ c.branch-item.ensures c.in_ok-item.is, passing, rules) depth 12

pub overflow_add-sum : goal.overflow_add-sum
overflow_add-sum c = search (tried _ _ _ c.branch-item.ensures c.in_ok-item.is, passing, rules) depth 12

pub measure_entries-requires : goal.measure_entries-requires
measure_entries-requires c = search (tried _ _ _ c.branch-item.ensures c.in_ok-item.is, passing, rules) depth 12

pub loop-p-smaller : goal.loop-p-smaller
loop-p-smaller c = search (tried _ _ _ c.branch-item.ensures c.in_ok-item.is, tried _ _ _ c.branch-total.ensures c.in_ok-total.is, passing, rules) depth 12

pub loop-p-preserved : goal.loop-p-preserved
loop-p-preserved c = search (tried _ _ _ c.branch-item.ensures c.in_ok-item.is, tried _ _ _ c.branch-total.ensures c.in_ok-total.is, passing, rules) depth 12

pub returns : goal.returns
returns c = search (passing, rules) depth 12

pub returns-in_err-item : goal.returns-in_err-item
returns-in_err-item c = said_again _ _ _ c.from_residual.ensures (search (failed _ _ _ c.branch-item.ensures c.in_err-item.is, passing, rules) depth 12)

pub returns-in_err-total : goal.returns-in_err-total
returns-in_err-total c = said_again _ _ _ c.from_residual-in_err-total.ensures (search (tried _ _ _ c.branch-item.ensures c.in_ok-item.is, failed _ _ _ c.branch-total.ensures c.in_err-total.is, passing, rules) depth 12)
