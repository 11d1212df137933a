use Rattle.common.proofs.Choose.{cases, told}
use Rattle.common.proofs.Said.{answering}
use Rattle.write_accept.specs.Writes.{desk_at}
use Rattle.write_call.proofs.Answers.{desk_rest}
use borrow.Author.Rules.{rules}
use Rattle.write_call.proofs.writes.check.Goals as goal

pub returns-then-schema-gt1073741824 : goal.returns-then-schema-gt1073741824
unfolding desk_at
returns-then-schema-gt1073741824 c = search (told, answering, cases) depth 12

pub returns-then-records-gt1073741824 : goal.returns-then-records-gt1073741824
unfolding desk_at
returns-then-records-gt1073741824 c = search (told, answering, cases) depth 12

pub returns-then-bytes-gt1073741824 : goal.returns-then-bytes-gt1073741824
unfolding desk_at
returns-then-bytes-gt1073741824 c = search (told, answering, cases) depth 12

pub returns-then-room-gt1073741824 : goal.returns-then-room-gt1073741824
unfolding desk_at
returns-then-room-gt1073741824 c = search (told, answering, cases) depth 12

pub returns : goal.returns
returns c = search (desk_rest, rules) depth 12
