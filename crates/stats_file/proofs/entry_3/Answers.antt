use Rattle.stats_file.proofs.Whole.{entry3_is}
use Rattle.std.proofs.Common.{rules}
use Rattle.stats_file.proofs.entry_3.Goals as goal

pub returns : goal.returns
returns c = search (entry3_is, rules)
