use Rattle.common.proofs.Choose.{cases, told}
use Rattle.schema_check.specs.Records.{is_kind_of}
use Rattle.schema_check.proofs.records.is_kind_of.Goals as goal

pub returns-then-role-gt3 : goal.returns-then-role-gt3
unfolding is_kind_of
returns-then-role-gt3 c = search (told, cases) depth 12

pub returns-then-mark-gt1 : goal.returns-then-mark-gt1
unfolding is_kind_of
returns-then-mark-gt1 c = search (told, cases) depth 12

pub returns-then-is_line_of : goal.returns-then-is_line_of
unfolding is_kind_of
returns-then-is_line_of c = search (told, cases) depth 12

pub returns : goal.returns
unfolding is_kind_of
returns c = search (told, cases) depth 12
