use Rattle.common.proofs.Choose.{cases, told}
use Rattle.write_record.specs.Records.{stray_record}
use Rattle.write_record.proofs.fields.is_stray_record.Goals as goal

pub returns-then-is_stray_bytes : goal.returns-then-is_stray_bytes
unfolding stray_record
returns-then-is_stray_bytes c = search (told, cases) depth 12

pub returns : goal.returns
unfolding stray_record
returns c = search (told, cases) depth 12
