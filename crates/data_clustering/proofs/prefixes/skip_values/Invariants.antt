use Rattle.data_clustering.proofs.Loops.{Skipping}
use Rattle.data_clustering.specs.Prefixes.{skipped, values_at, widths_at}
use Rattle.data_clustering.proofs.prefixes.skip_values.Given as goal

abbrev pub invariant-loop : goal.invariant-loop
invariant-loop l = Skipping (skipped (values_at (widths_at l.schema l.first l.count) l.header l.s l.at l.end)) l.schema l.s l.end l.column l.count l.counter l.h l.p
