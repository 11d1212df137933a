use Rattle.common.proofs.Said.{said_again, tried, failed, said_err}
use Rattle.list_count.proofs.Cells.{counting}
use borrow.Author.Rules.{rules}
use Rattle.list_count.proofs.counts.count_cells.Goals as goal

pub loop-left-init : goal.loop-left-init
loop-left-init c = search (counting, rules) depth 12

pub bounds-c-column : goal.bounds-c-column
bounds-c-column c = search (counting, rules) depth 12

pub returns : goal.returns
returns c = search (counting, rules) depth 12

pub returns-in_err-next : goal.returns-in_err-next
returns-in_err-next c = said_again _ _ _ c.from_residual.ensures (search (failed _ _ _ c.branch-next.ensures c.in_err-next.is, counting, rules) depth 12)

pub loop-left-preserved : goal.loop-left-preserved
loop-left-preserved c = search (tried _ _ _ c.branch-next.ensures c.in_ok-next.is, counting, rules) depth 12

pub returns-then-p-stop : goal.returns-then-p-stop
returns-then-p-stop c = search (counting, rules, said_err) depth 12
