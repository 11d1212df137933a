use Rattle.common.proofs.Said.{again, tried, failed}
use Rattle.stats_file.proofs.Whole.{files}
use Rattle.stats_file.proofs.read_file.Goals as goal

pub returns-in_err-contents : goal.returns-in_err-contents
returns-in_err-contents c = rw (again _ _ c.from_residual.ensures) (search (files, failed _ _ _ c.branch-contents.ensures c.in_err-contents.is))

pub returns-then-contents : goal.returns-then-contents
returns-then-contents c = search (files, tried _ _ _ c.branch-contents.ensures c.in_ok-contents.is)

pub returns : goal.returns
returns c = search (files, tried _ _ _ c.branch-contents.ensures c.in_ok-contents.is)
