use Rattle.common.proofs.Choose.{cases, told}
use Rattle.write_accept.specs.Tests.{bad_row}
use Rattle.write_record.proofs.Said.{unlikes}
use Rattle.write_record.proofs.tests.is_bad_row.Goals as goal

pub returns-then-i-kind : goal.returns-then-i-kind
unfolding bad_row
returns-then-i-kind c = search (unlikes, told, cases) depth 12

pub returns : goal.returns
unfolding bad_row
returns c = search (unlikes, told, cases) depth 12
