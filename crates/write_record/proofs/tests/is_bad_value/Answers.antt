use Rattle.common.proofs.Choose.{cases, told}
use Rattle.write_accept.specs.Tests.{bad_value}
use Rattle.write_record.proofs.Said.{unlikes}
use Rattle.write_record.proofs.tests.is_bad_value.Goals as goal

pub returns-then-is_bad_place : goal.returns-then-is_bad_place
unfolding bad_value
returns-then-is_bad_place c = search (unlikes, told, cases) depth 12

pub returns : goal.returns
unfolding bad_value
returns c = search (unlikes, told, cases) depth 12
