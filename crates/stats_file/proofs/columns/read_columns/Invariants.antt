use Rattle.std.proofs.Common.{◌-◌}
use Rattle.stats_file.proofs.Loops.{Filling}
use Rattle.stats_file.proofs.columns.read_columns.Given as goal

abbrev pub invariant-loop-i : goal.invariant-loop-i
invariant-loop-i l = Filling l.n l.role l.s l.at l.end l.initial.d l.first l.d l.p l.i
