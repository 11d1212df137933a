use Rattle.data_row_reread.proofs.KnownPrefixes.{Passing}
use Rattle.data_clustering.specs.Prefixes.{values_at, widths_at, skipped}
use Rattle.data_row_reread.proofs.prefixes.skip_known.Given as goal

abbrev pub invariant-loop : goal.invariant-loop
invariant-loop l = Passing (skipped (values_at (widths_at l.schema l.first l.count) l.header l.s l.at l.end)) l.schema l.s l.end l.column l.count l.counter l.h l.p
