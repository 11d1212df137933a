use Rattle.write_measure_parts.proofs.Values.{Valued}
use Rattle.write_measure_parts.proofs.ahead.size_clustering.Given as goal

abbrev pub invariant-loop-i : goal.invariant-loop-i
invariant-loop-i l = Valued l.whole l.bytes l.c l.s l.k l.at l.i l.column l.p l.header l.size
