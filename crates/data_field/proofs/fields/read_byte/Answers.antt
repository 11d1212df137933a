use Rattle.common.proofs.Choose.{cases}
use Rattle.common.proofs.Said.{reading}
use Rattle.data_field.specs.Fields.{byte_at}
use Rattle.data_field.proofs.fields.read_byte.Goals as goal

pub returns-then-s-end : goal.returns-then-s-end
unfolding byte_at
returns-then-s-end c = search (reading, cases) depth 12

pub returns-then-end-at : goal.returns-then-end-at
unfolding byte_at
returns-then-end-at c = search (reading, cases) depth 12

pub returns : goal.returns
unfolding byte_at
returns c = search (reading, cases) depth 12
