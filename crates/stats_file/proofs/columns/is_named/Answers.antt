use Rattle.std.proofs.Common.{rules}
use Rattle.stats_file.proofs.Loops.{seeking}
use Rattle.stats_file.proofs.columns.is_named.Goals as goal

pub returns-then-has_name : goal.returns-then-has_name
returns-then-has_name c = search (seeking, rules)

pub loop-i-preserved : goal.loop-i-preserved
loop-i-preserved c = search (seeking, rules)

pub returns : goal.returns
returns c = search (seeking, rules)
