use Rattle.common.proofs.Choose.{cases, told}
use Rattle.write_accept.specs.Tests.{bad_cell}
use Rattle.write_record.proofs.Said.{unlikes}
use Rattle.write_record.proofs.tests.is_bad_cell.Goals as goal

pub returns-then-i-ne6 : goal.returns-then-i-ne6
unfolding bad_cell
returns-then-i-ne6 c = search (unlikes, told, cases) depth 12

pub returns-then-is_bad_cell_flags : goal.returns-then-is_bad_cell_flags
unfolding bad_cell
returns-then-is_bad_cell_flags c = search (unlikes, told, cases) depth 12

pub returns-then-i-column : goal.returns-then-i-column
unfolding bad_cell
returns-then-i-column c = search (unlikes, told, cases) depth 12

pub returns : goal.returns
unfolding bad_cell
returns c = search (unlikes, told, cases) depth 12
