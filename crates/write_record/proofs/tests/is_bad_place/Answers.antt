use Rattle.common.proofs.Choose.{cases, told}
use Rattle.write_accept.specs.Tests.{bad_place}
use Rattle.write_record.proofs.Said.{unlikes}
use Rattle.write_record.proofs.tests.is_bad_place.Goals as goal

pub returns-then-i-eq0 : goal.returns-then-i-eq0
unfolding bad_place
returns-then-i-eq0 c = search (unlikes, told, cases) depth 12

pub returns-then-bytes-i : goal.returns-then-bytes-i
unfolding bad_place
returns-then-bytes-i c = search (unlikes, told, cases) depth 12

pub returns : goal.returns
unfolding bad_place
returns c = search (unlikes, told, cases) depth 12
