use Rattle.common.proofs.Choose.{cases, told}
use Rattle.write_accept.specs.Tests.{bad_marker}
use Rattle.write_record.proofs.Said.{unlikes}
use Rattle.write_record.proofs.tests.is_bad_marker.Goals as goal

pub returns-then-i-ne4 : goal.returns-then-i-ne4
unfolding bad_marker
returns-then-i-ne4 c = search (unlikes, told, cases) depth 12

pub returns-then-i-ne4-2 : goal.returns-then-i-ne4-2
unfolding bad_marker
returns-then-i-ne4-2 c = search (unlikes, told, cases) depth 12

pub returns-then-bad_kind : goal.returns-then-bad_kind
unfolding bad_marker
returns-then-bad_kind c = search (unlikes, told, cases) depth 12

pub returns-then-out_of_turn : goal.returns-then-out_of_turn
unfolding bad_marker
returns-then-out_of_turn c = search (unlikes, told, cases) depth 12

pub returns : goal.returns
unfolding bad_marker
returns c = search (unlikes, told, cases) depth 12
