use Rattle.data_clustering.proofs.Loops.{Heading}
use Rattle.data_clustering.proofs.prefixes.bad_header.Given as goal

abbrev pub invariant-loop : goal.invariant-loop
invariant-loop l = Heading l.k l.header l.counter l.h
