use Rattle.std.proofs.Common.{◌-◌}
use Rattle.common.specs.Store.{shown}
use Rattle.stats_file.proofs.Loops.{Seeking}
use Rattle.stats_file.proofs.columns.is_named.Given as goal

abbrev pub invariant-loop-i : goal.invariant-loop-i
invariant-loop-i l = Seeking l.s (shown l.s l.start l.len) l.d l.k l.i
