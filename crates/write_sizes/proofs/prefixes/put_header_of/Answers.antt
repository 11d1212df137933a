use Rattle.common.proofs.Choose.{cases}
use Rattle.common.proofs.Puts.{puts}
use Rattle.write_row_parts.specs.Parts.{header_form}
use Rattle.write_sizes.proofs.prefixes.put_header_of.Goals as goal

pub put_in-requires : goal.put_in-requires
unfolding header_form
put_in-requires c = search (puts, cases) depth 12

pub returns-then-count-ne0 : goal.returns-then-count-ne0
unfolding header_form
returns-then-count-ne0 c = search (puts, cases) depth 12

pub returns : goal.returns
unfolding header_form
returns c = search (puts, cases) depth 12
