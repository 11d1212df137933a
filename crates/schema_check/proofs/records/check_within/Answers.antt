use Rattle.common.proofs.Choose.{cases}
use Rattle.common.proofs.Said.{answering}
use Rattle.schema_check.specs.Records.{schema_of}
use Rattle.schema_check.proofs.records.check_within.Goals as goal

pub returns-then-schema-gt1073741824 : goal.returns-then-schema-gt1073741824
unfolding schema_of
returns-then-schema-gt1073741824 c = search (answering, cases) depth 12

pub returns : goal.returns
unfolding schema_of
returns c = rw (← c.read_records.ensures) (search cases depth 12)
