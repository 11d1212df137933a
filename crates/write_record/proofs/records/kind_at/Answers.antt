use Rattle.common.proofs.Choose.{cases}
use Rattle.common.proofs.Said.{reading}
use Rattle.write_accept.specs.Records.{kind_at}
use Rattle.write_record.proofs.Said.{numbers}
use Rattle.write_record.proofs.records.kind_at.Goals as goal

pub returns-then-left_of-lt64 : goal.returns-then-left_of-lt64
unfolding kind_at
returns-then-left_of-lt64 c = search (reading, numbers, cases) depth 12

pub returns : goal.returns
unfolding kind_at
returns c = search (reading, numbers, cases) depth 12
