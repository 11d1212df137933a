use Rattle.common.proofs.Choose.{cases, told}
use Rattle.write_accept.specs.Tests.{bad_row_flags}
use Rattle.write_record.proofs.Said.{unlikes}
use Rattle.write_record.proofs.tests.is_bad_row_flags.Goals as goal

pub returns-then-f-gt7 : goal.returns-then-f-gt7
unfolding bad_row_flags
returns-then-f-gt7 c = search (unlikes, told, cases) depth 12

pub returns : goal.returns
unfolding bad_row_flags
returns c = search (unlikes, told, cases) depth 12
