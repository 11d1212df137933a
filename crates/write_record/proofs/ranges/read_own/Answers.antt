use Rattle.common.proofs.Choose.{cases, told}
use Rattle.common.proofs.Said.{reading}
use Rattle.write_record.specs.Records.{own_at}
use Rattle.write_record.proofs.Said.{used}
use Rattle.write_record.proofs.ranges.read_own.Goals as goal

pub returns-then-is_outside : goal.returns-then-is_outside
unfolding own_at
returns-then-is_outside c = search (used, reading, told, cases) depth 12

pub returns-then-is_outside-2 : goal.returns-then-is_outside-2
unfolding own_at
returns-then-is_outside-2 c = search (used, reading, told, cases) depth 12

pub returns-then-is_outside-3 : goal.returns-then-is_outside-3
unfolding own_at
returns-then-is_outside-3 c = search (used, reading, told, cases) depth 12

pub returns : goal.returns
unfolding own_at
returns c = search (used, reading, told, cases) depth 12
