use Rattle.common.proofs.Said.{again, tried, failed}
use Rattle.stats_file.proofs.Loops.{adding}
use Rattle.std.proofs.Common.{rules}
use Rattle.stats_file.proofs.columns.add_column.Goals as goal

pub put_record-requires : goal.put_record-requires
put_record-requires c = search (adding, rules)

pub returns-in_err-column : goal.returns-in_err-column
returns-in_err-column c = rw (again _ _ c.from_residual.ensures) (search (adding, failed _ _ _ c.branch-column.ensures c.in_err-column.is))

pub returns : goal.returns
returns c = search (adding, tried _ _ _ c.branch-column.ensures c.in_ok-column.is, rules)
