use Rattle.call_check.specs.Tables.{table_at}
use Rattle.common.proofs.Choose.{cases, told}
use Rattle.common.proofs.Said.{answering}
use Rattle.call_check.proofs.check.Goals as goal

pub returns-then-schema-gt1073741824 : goal.returns-then-schema-gt1073741824
unfolding table_at
returns-then-schema-gt1073741824 c = search (told, answering, cases) depth 12

pub returns-then-data-gt1073741824 : goal.returns-then-data-gt1073741824
unfolding table_at
returns-then-data-gt1073741824 c = search (told, answering, cases) depth 12

pub returns-then-room-gt1073741824 : goal.returns-then-room-gt1073741824
unfolding table_at
returns-then-room-gt1073741824 c = search (told, answering, cases) depth 12

pub returns-then-is_bad_bases : goal.returns-then-is_bad_bases
unfolding table_at
returns-then-is_bad_bases c = search (told, answering, cases) depth 12

pub returns : goal.returns
unfolding table_at
returns c = search (told, answering, cases) depth 12
