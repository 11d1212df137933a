use Rattle.common.proofs.Choose.{cases}
use Rattle.schema_check.specs.Runs.{lesser_of}
use Rattle.schema_check.proofs.records.lesser.Goals as goal

pub returns-then-a-b : goal.returns-then-a-b
unfolding lesser_of
returns-then-a-b c = search cases depth 12

pub returns : goal.returns
unfolding lesser_of
returns c = search cases depth 12
