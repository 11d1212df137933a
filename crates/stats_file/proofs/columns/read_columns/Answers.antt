use Rattle.common.proofs.Said.{again, tried, failed}
use Rattle.std.proofs.Common.{rules}
use Rattle.stats_file.proofs.Loops.{filling}
use Rattle.stats_file.proofs.columns.read_columns.Goals as goal

pub returns : goal.returns
returns c = search (filling, rules)

pub loop-i-preserved : goal.loop-i-preserved
loop-i-preserved c = search (filling, tried _ _ _ c.branch-p.ensures c.in_ok-p.is, rules)

pub returns-in_err-p : goal.returns-in_err-p
returns-in_err-p c = rw (again _ _ c.from_residual.ensures) (search (filling, failed _ _ _ c.branch-p.ensures c.in_err-p.is, rules))
