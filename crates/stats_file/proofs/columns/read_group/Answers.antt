use Rattle.common.proofs.Said.{again, tried, failed}
use Rattle.stats_file.proofs.Loops.{grouping}
use Rattle.std.proofs.Common.{rules}
use Rattle.stats_file.proofs.columns.read_group.Goals as goal

pub read_columns-requires : goal.read_columns-requires
read_columns-requires c = search (grouping, tried _ _ _ c.branch-n.ensures c.in_ok-n.is, rules)

pub returns-in_err-n : goal.returns-in_err-n
returns-in_err-n c = rw (again _ _ c.from_residual.ensures) (search (grouping, failed _ _ _ c.branch-n.ensures c.in_err-n.is))

pub returns-in_err-next : goal.returns-in_err-next
returns-in_err-next c =
    let e = tried _ _ _ c.branch-n.ensures c.in_ok-n.is in
    rw (again _ _ c.from_residual-in_err-next.ensures) (search (grouping, e, failed _ _ _ c.branch-next.ensures c.in_err-next.is))

pub returns : goal.returns
returns c =
    let e = tried _ _ _ c.branch-n.ensures c.in_ok-n.is in
    search (grouping, e, tried _ _ _ c.branch-next.ensures c.in_ok-next.is)
