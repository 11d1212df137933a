use Rattle.common.proofs.Choose.{cases, told}
use Rattle.common.proofs.Puts.{puts}
use Rattle.write_row_parts.specs.Parts.{second_form}
use Rattle.write_row_parts.proofs.markers.put_second.Goals as goal

pub put_deletion-requires : goal.put_deletion-requires
unfolding second_form
put_deletion-requires c = search (puts, told, cases) depth 12

pub returns-then-is_boundary : goal.returns-then-is_boundary
unfolding second_form
returns-then-is_boundary c = search (puts, told, cases) depth 12

pub returns : goal.returns
unfolding second_form
returns c = search (puts, told, cases) depth 12
