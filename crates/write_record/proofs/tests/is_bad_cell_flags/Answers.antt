use Rattle.common.proofs.Choose.{cases, told}
use Rattle.write_accept.specs.Tests.{bad_cell_flags}
use Rattle.write_record.proofs.Said.{unlikes}
use Rattle.write_record.proofs.tests.is_bad_cell_flags.Goals as goal

pub returns-then-f-gt11 : goal.returns-then-f-gt11
unfolding bad_cell_flags
returns-then-f-gt11 c = search (unlikes, told, cases) depth 12

pub returns-then-f-eq7 : goal.returns-then-f-eq7
unfolding bad_cell_flags
returns-then-f-eq7 c = search (unlikes, told, cases) depth 12

pub returns : goal.returns
unfolding bad_cell_flags
returns c = search (unlikes, told, cases) depth 12
