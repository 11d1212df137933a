use Rattle.common.proofs.Said.{again, tried, failed}
use Rattle.stats_file.proofs.Whole.{both}
use Rattle.stats_file.proofs.backward.Goals as goal

pub returns-in_err-head : goal.returns-in_err-head
returns-in_err-head c = rw (again _ _ c.from_residual.ensures) (search (both, failed _ _ _ c.branch-head.ensures c.in_err-head.is))

pub returns-in_err-validation : goal.returns-in_err-validation
returns-in_err-validation c =
    let e = tried _ _ _ c.branch-head.ensures c.in_ok-head.is in
    rw (again _ _ c.from_residual-in_err-validation.ensures) (search (both, e, failed _ _ _ c.branch-validation.ensures c.in_err-validation.is))

pub returns : goal.returns
returns c =
    let e = tried _ _ _ c.branch-head.ensures c.in_ok-head.is in
    search (both, e, tried _ _ _ c.branch-validation.ensures c.in_ok-validation.is)
