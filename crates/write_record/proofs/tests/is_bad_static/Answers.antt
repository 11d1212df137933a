use Rattle.common.proofs.Choose.{cases, told}
use Rattle.write_accept.specs.Tests.{bad_static}
use Rattle.write_record.proofs.Said.{unlikes}
use Rattle.write_record.proofs.tests.is_bad_static.Goals as goal

pub returns-then-may_stand : goal.returns-then-may_stand
unfolding bad_static
returns-then-may_stand c = search (unlikes, told, cases) depth 12

pub returns : goal.returns
unfolding bad_static
returns c = search (unlikes, told, cases) depth 12
