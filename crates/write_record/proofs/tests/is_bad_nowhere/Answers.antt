use Rattle.common.proofs.Choose.{cases, told}
use Rattle.write_accept.specs.Tests.{bad_nowhere}
use Rattle.write_record.proofs.Said.{unlikes}
use Rattle.write_record.proofs.tests.is_bad_nowhere.Goals as goal

pub returns-then-i-ne0 : goal.returns-then-i-ne0
unfolding bad_nowhere
returns-then-i-ne0 c = search (unlikes, told, cases) depth 12

pub returns-then-i-ne0-2 : goal.returns-then-i-ne0-2
unfolding bad_nowhere
returns-then-i-ne0-2 c = search (unlikes, told, cases) depth 12

pub returns : goal.returns
unfolding bad_nowhere
returns c = search (unlikes, told, cases) depth 12
