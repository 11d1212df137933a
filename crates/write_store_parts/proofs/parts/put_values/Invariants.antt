use Rattle.write_store_parts.specs.Again.{values_again}
use Rattle.write_store_parts.proofs.PutValues.{Valuing}
use Rattle.write_store_parts.proofs.parts.put_values.Given as goal

abbrev pub invariant-loop : goal.invariant-loop
invariant-loop l = Valuing (values_again l.c 16 l.bytes l.s l.at l.k) l.c l.bytes l.s l.k l.initial.d l.d l.to l.column l.counter l.p l.out
