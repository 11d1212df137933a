use Rattle.common.proofs.Choose.{cases}
use Rattle.common.proofs.Puts.{puts}
use Rattle.write_form.specs.Rows.{row_expiry_bytes}
use Rattle.write_row_parts.proofs.heads.put_expiry.Goals as goal

pub put_pair-requires : goal.put_pair-requires
unfolding row_expiry_bytes
put_pair-requires c = search (puts, cases) depth 12

pub returns-then-row-eq1 : goal.returns-then-row-eq1
unfolding row_expiry_bytes
returns-then-row-eq1 c = search (puts, cases) depth 12

pub returns : goal.returns
unfolding row_expiry_bytes
returns c = search (puts, cases) depth 12
