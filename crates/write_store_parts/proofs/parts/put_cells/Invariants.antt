use Rattle.write_store_parts.specs.Again.{cells_again}
use Rattle.write_store_parts.proofs.PutCells.{Celling}
use Rattle.write_store_parts.proofs.parts.put_cells.Given as goal

abbrev pub invariant-loop : goal.invariant-loop
invariant-loop l = Celling (cells_again l.b l.times l.c l.base l.bytes l.s l.at l.k) l.b l.times l.c l.base l.bytes l.s l.k l.initial.d l.d l.to l.counter l.p l.out
