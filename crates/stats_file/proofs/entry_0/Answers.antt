use Rattle.stats_file.proofs.Whole.{entry0_is}
use Rattle.std.proofs.Common.{rules}
use Rattle.stats_file.proofs.entry_0.Goals as goal

pub returns : goal.returns
returns c = search (entry0_is, rules)
