use Rattle.common.proofs.Choose.{cases}
use Rattle.schema_check.specs.Records.{most_of}
use Rattle.stats_file.proofs.columns.most_of.Goals as goal

pub returns-then-role-eq0 : goal.returns-then-role-eq0
unfolding most_of
returns-then-role-eq0 c = search cases depth 12

pub returns-then-role-eq1 : goal.returns-then-role-eq1
unfolding most_of
returns-then-role-eq1 c = search cases depth 12

pub returns : goal.returns
unfolding most_of
returns c = search cases depth 12
