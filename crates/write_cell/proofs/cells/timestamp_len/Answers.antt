use Rattle.common.proofs.Choose.{cases}
use Rattle.write_form.specs.Cells.{timestamp_bytes}
use Rattle.write_number.proofs.Writing.{writing}
use borrow.Author.Rules.{rules}
use Rattle.write_cell.proofs.cells.timestamp_len.Goals as goal

pub returns-then-same_time-eq1 : goal.returns-then-same_time-eq1
unfolding timestamp_bytes
returns-then-same_time-eq1 c = search (writing, cases, rules) depth 12

pub returns : goal.returns
unfolding timestamp_bytes
returns c = search (writing, cases, rules) depth 12
