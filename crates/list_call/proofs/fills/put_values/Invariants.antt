use Rattle.list_call.proofs.PutValues.{Valuing}
use Rattle.list_call.specs.Parts.{values_of}
use Rattle.list_call.specs.Records.{records_of}
use Rattle.data_clustering.specs.Prefixes.{values_at, widths_at}
use lib.ListN.{length}
use Rattle.list_call.proofs.fills.put_values.Given as goal

abbrev pub invariant-loop-i : goal.invariant-loop-i
invariant-loop-i l = Valuing (records_of (values_of (values_at (widths_at l.c 16 l.k) l.header l.s l.at (length l.s)))) l.c l.s l.k l.initial.d l.d l.to l.column l.i l.h l.p l.out
