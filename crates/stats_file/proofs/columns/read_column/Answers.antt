use Rattle.common.proofs.Choose.{cases}
use Rattle.stats_file.specs.Header.{column_at}
use Rattle.stats_file.proofs.columns.read_column.Goals as goal

pub returns-then-role-lt2 : goal.returns-then-role-lt2
unfolding column_at
returns-then-role-lt2 c = search cases depth 12

pub returns : goal.returns
unfolding column_at
returns c = search cases depth 12
