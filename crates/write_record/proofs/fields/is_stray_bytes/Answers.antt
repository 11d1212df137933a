use Rattle.common.proofs.Choose.{cases, told}
use Rattle.write_accept.specs.Fields.{stray_bytes}
use Rattle.write_record.proofs.Said.{numbers}
use Rattle.write_record.proofs.fields.is_stray_bytes.Goals as goal

pub returns-then-wide-gt0 : goal.returns-then-wide-gt0
unfolding stray_bytes
returns-then-wide-gt0 c = search (numbers, told, cases) depth 12

pub returns : goal.returns
unfolding stray_bytes
returns c = search (numbers, told, cases) depth 12
