use Rattle.common.proofs.Said.{again, tried, failed}
use Rattle.stats_file.proofs.Whole.{answers_read, read_columns, read_part, read_room}
use Rattle.std.proofs.Common.{rules}
use Rattle.stats_file.proofs.read.Goals as goal

pub returns-then-file-gt1073741824 : goal.returns-then-file-gt1073741824
returns-then-file-gt1073741824 c = search (answers_read, rules)

pub returns-then-out-gt1073741824 : goal.returns-then-out-gt1073741824
returns-then-out-gt1073741824 c = search (answers_read, rules)

pub returns-in_err-table : goal.returns-in_err-table
returns-in_err-table c = rw (again _ _ c.from_residual.ensures) (search (answers_read, failed _ _ _ c.branch-table.ensures c.in_err-table.is))

pub record_bytes-n-requires : goal.record_bytes-n-requires
record_bytes-n-requires c = search (read_columns, tried _ _ _ c.branch-table.ensures c.in_ok-table.is, rules)

pub returns-then-out-n : goal.returns-then-out-n
returns-then-out-n c = search (answers_read, tried _ _ _ c.branch-table.ensures c.in_ok-table.is, rules)

pub put_part-requires : goal.put_part-requires
put_part-requires c = search (read_part, read_room, tried _ _ _ c.branch-table.ensures c.in_ok-table.is, rules)

pub returns : goal.returns
returns c = search (answers_read, tried _ _ _ c.branch-table.ensures c.in_ok-table.is, rules)
