use Rattle.common.proofs.Choose.{cases, told}
use Rattle.common.proofs.Said.{reading}
use Rattle.write_record.specs.Records.{plain_at}
use Rattle.write_record.proofs.Said.{numbers}
use Rattle.write_record.proofs.records.read_plain.Goals as goal

pub returns-then-left_of-lt64 : goal.returns-then-left_of-lt64
unfolding plain_at
returns-then-left_of-lt64 c = search (reading, told, numbers, cases) depth 12

pub returns-then-is_stray_record : goal.returns-then-is_stray_record
unfolding plain_at
returns-then-is_stray_record c = search (reading, told, numbers, cases) depth 12

pub returns : goal.returns
unfolding plain_at
returns c = search (reading, told, numbers, cases) depth 12
