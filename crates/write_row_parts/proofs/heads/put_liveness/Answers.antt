use Rattle.common.proofs.Choose.{cases}
use Rattle.common.proofs.Puts.{puts}
use Rattle.write_form.specs.Rows.{liveness_bytes}
use Rattle.write_row_parts.proofs.heads.put_liveness.Goals as goal

pub put_timed-requires : goal.put_timed-requires
unfolding liveness_bytes
put_timed-requires c = search (puts, cases) depth 12

pub returns-then-row-eq1 : goal.returns-then-row-eq1
unfolding liveness_bytes
returns-then-row-eq1 c = search (puts, cases) depth 12

pub returns : goal.returns
unfolding liveness_bytes
returns c = search (puts, cases) depth 12
