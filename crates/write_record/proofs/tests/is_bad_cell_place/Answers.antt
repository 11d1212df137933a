use Rattle.common.proofs.Choose.{cases, told}
use Rattle.write_accept.specs.Tests.{bad_cell_place}
use Rattle.write_record.proofs.Said.{unlikes}
use Rattle.write_record.proofs.tests.is_bad_cell_place.Goals as goal

pub returns-then-has_local : goal.returns-then-has_local
unfolding bad_cell_place
returns-then-has_local c = search (unlikes, told, cases) depth 12

pub returns-then-i-gt8 : goal.returns-then-i-gt8
unfolding bad_cell_place
returns-then-i-gt8 c = search (unlikes, told, cases) depth 12

pub returns : goal.returns
unfolding bad_cell_place
returns c = search (unlikes, told, cases) depth 12
