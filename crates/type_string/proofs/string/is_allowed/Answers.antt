use Rattle.common.proofs.Choose.{cases}
use Rattle.type_string.proofs.string.is_allowed.Goals as goal

pub returns-then-column : goal.returns-then-column
returns-then-column c = search cases depth 12

pub returns : goal.returns
returns c = search cases depth 12
