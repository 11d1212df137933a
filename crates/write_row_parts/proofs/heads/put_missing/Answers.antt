use Rattle.common.proofs.Choose.{cases}
use Rattle.common.proofs.Puts.{puts}
use Rattle.write_form.specs.Rows.{missing_bytes}
use Rattle.write_row_parts.proofs.heads.put_missing.Goals as goal

pub returns-then-missing-eq0 : goal.returns-then-missing-eq0
unfolding missing_bytes
returns-then-missing-eq0 c = search (puts, cases) depth 12

pub put_in-requires : goal.put_in-requires
unfolding missing_bytes
put_in-requires c = search (puts, cases) depth 12

pub returns : goal.returns
unfolding missing_bytes
returns c = search (puts, cases) depth 12
