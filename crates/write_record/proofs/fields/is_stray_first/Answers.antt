use Rattle.common.proofs.Choose.{cases, told}
use Rattle.write_accept.specs.Fields.{stray_first}
use Rattle.write_record.proofs.Said.{used}
use Rattle.write_record.proofs.fields.is_stray_first.Goals as goal

pub returns-then-is_stray : goal.returns-then-is_stray
unfolding stray_first
returns-then-is_stray c = search (used, told, cases) depth 12

pub returns-then-is_stray-2 : goal.returns-then-is_stray-2
unfolding stray_first
returns-then-is_stray-2 c = search (used, told, cases) depth 12

pub returns-then-is_stray-3 : goal.returns-then-is_stray-3
unfolding stray_first
returns-then-is_stray-3 c = search (used, told, cases) depth 12

pub returns : goal.returns
unfolding stray_first
returns c = search (used, told, cases) depth 12
