use lib.ListN.{length}
use Rattle.data_clustering.specs.Prefixes.{widths_at}
use Rattle.write_measure_parts.specs.Lengths.{taken_clustering, clustering_measured}
use Rattle.write_measure_parts.proofs.Values.{Valuing}
use Rattle.write_measure_parts.proofs.parts.measure_clustering.Given as goal

abbrev pub invariant-loop-i : goal.invariant-loop-i
invariant-loop-i l = Valuing (clustering_measured l.bytes (widths_at l.c 16 l.k) (taken_clustering l.whole l.b l.bytes 0 (widths_at l.c 16 l.k) l.s l.at (length l.s))) l.whole l.b l.bytes l.c l.s l.k l.i l.column l.p l.header l.size
