use Rattle.common.proofs.Choose.{cases, told}
use Rattle.write_accept.specs.Tests.{bad_width}
use Rattle.write_record.proofs.Said.{unlikes}
use Rattle.write_record.proofs.tests.is_bad_width.Goals as goal

pub returns-then-width-eq255 : goal.returns-then-width-eq255
unfolding bad_width
returns-then-width-eq255 c = search (unlikes, told, cases) depth 12

pub returns-then-len-width : goal.returns-then-len-width
unfolding bad_width
returns-then-len-width c = search (unlikes, told, cases) depth 12

pub returns : goal.returns
unfolding bad_width
returns c = search (unlikes, told, cases) depth 12
