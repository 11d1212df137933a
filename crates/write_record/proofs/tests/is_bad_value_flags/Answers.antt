use Rattle.common.proofs.Choose.{cases, told}
use Rattle.write_accept.specs.Tests.{bad_value_flags}
use Rattle.write_record.proofs.Said.{unlikes}
use Rattle.write_record.proofs.tests.is_bad_value_flags.Goals as goal

pub returns-then-f-eq0 : goal.returns-then-f-eq0
unfolding bad_value_flags
returns-then-f-eq0 c = search (unlikes, told, cases) depth 12

pub returns-then-f-ne8 : goal.returns-then-f-ne8
unfolding bad_value_flags
returns-then-f-ne8 c = search (unlikes, told, cases) depth 12

pub returns : goal.returns
unfolding bad_value_flags
returns c = search (unlikes, told, cases) depth 12
