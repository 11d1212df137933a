use Rattle.common.proofs.Choose.{cases, told}
use Rattle.write_accept.specs.Tests.{bad_first}
use Rattle.write_record.proofs.Said.{unlikes}
use Rattle.write_record.proofs.tests.is_bad_first.Goals as goal

pub returns-then-is_start : goal.returns-then-is_start
unfolding bad_first
returns-then-is_start c = search (unlikes, told, cases) depth 12

pub returns-then-is_same_deletion : goal.returns-then-is_same_deletion
unfolding bad_first
returns-then-is_same_deletion c = search (unlikes, told, cases) depth 12

pub returns : goal.returns
unfolding bad_first
returns c = search (unlikes, told, cases) depth 12
