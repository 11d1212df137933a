use Rattle.common.proofs.Choose.{cases, told}
use Rattle.common.proofs.Said.{reading}
use Rattle.write_record.specs.Records.{second_at}
use Rattle.write_record.proofs.Said.{used}
use Rattle.write_record.proofs.ranges.read_second.Goals as goal

pub returns-then-is_outside : goal.returns-then-is_outside
unfolding second_at
returns-then-is_outside c = search (used, reading, told, cases) depth 12

pub returns-then-is_outside-2 : goal.returns-then-is_outside-2
unfolding second_at
returns-then-is_outside-2 c = search (used, reading, told, cases) depth 12

pub returns : goal.returns
unfolding second_at
returns c = search (used, reading, told, cases) depth 12
