use Rattle.common.proofs.Choose.{cases, told}
use Rattle.write_accept.specs.Tests.{bad_end}
use Rattle.write_record.proofs.Said.{unlikes}
use Rattle.write_record.proofs.tests.is_bad_end.Goals as goal

pub returns-then-i-ne7 : goal.returns-then-i-ne7
unfolding bad_end
returns-then-i-ne7 c = search (unlikes, told, cases) depth 12

pub returns-then-i-ne0 : goal.returns-then-i-ne0
unfolding bad_end
returns-then-i-ne0 c = search (unlikes, told, cases) depth 12

pub returns-then-opened-ne0 : goal.returns-then-opened-ne0
unfolding bad_end
returns-then-opened-ne0 c = search (unlikes, told, cases) depth 12

pub returns : goal.returns
unfolding bad_end
returns c = search (unlikes, told, cases) depth 12
