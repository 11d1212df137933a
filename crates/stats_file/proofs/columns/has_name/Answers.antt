use Rattle.stats_file.proofs.Loops.{name_same}
use Rattle.std.proofs.Common.{rules}
use Rattle.stats_file.proofs.columns.has_name.Goals as goal

pub returns : goal.returns
returns c = search (name_same, rules)
