use Rattle.common.proofs.Choose.{cases}
use Rattle.common.proofs.Puts.{puts}
use Rattle.write_form.specs.Rows.{row_deletion_bytes}
use Rattle.write_row_parts.proofs.heads.put_deletion.Goals as goal

pub put_deletion-requires : goal.put_deletion-requires
unfolding row_deletion_bytes
put_deletion-requires c = search (puts, cases) depth 12

pub returns-then-deletion-eq1 : goal.returns-then-deletion-eq1
unfolding row_deletion_bytes
returns-then-deletion-eq1 c = search (puts, cases) depth 12

pub returns : goal.returns
unfolding row_deletion_bytes
returns c = search (puts, cases) depth 12
