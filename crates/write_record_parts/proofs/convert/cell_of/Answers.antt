use Rattle.common.proofs.Choose.{cases, told}
use Rattle.write_accept.specs.Fields.{has_local, has_expiry}
use Rattle.write_accept.specs.Entries.{cell_of}
use Rattle.write_record_parts.proofs.convert.cell_of.Goals as goal

pub returns-then-flags-eq1 : goal.returns-then-flags-eq1
unfolding cell_of has_local has_expiry
returns-then-flags-eq1 c = search (told, cases) depth 12

pub returns-then-flags-eq1-2 : goal.returns-then-flags-eq1-2
unfolding cell_of has_local has_expiry
returns-then-flags-eq1-2 c = search (told, cases) depth 12

pub returns : goal.returns
unfolding cell_of has_local has_expiry
returns c = search (told, cases) depth 12
