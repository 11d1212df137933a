use Rattle.common.proofs.Choose.{cases, told}
use Rattle.write_accept.specs.Fields.{stray_numbers}
use Rattle.write_record.proofs.fields.is_stray_numbers.Goals as goal

pub returns-then-is_stray_first : goal.returns-then-is_stray_first
unfolding stray_numbers
returns-then-is_stray_first c = search (told, cases) depth 12

pub returns : goal.returns
unfolding stray_numbers
returns c = search (told, cases) depth 12
