use Rattle.list_call.proofs.PutEntries.{Storing}
use Rattle.data_contents.specs.Contents.{widths_of, entries_at}
use Rattle.data_field.specs.Fields.{live}
use lib.ListN.{length}
use Prim.Native.Nat.{◌-◌}
use Rattle.list_call.proofs.fills.put_entries.Given as goal

abbrev pub invariant-loop-value : goal.invariant-loop-value
invariant-loop-value l = Storing (entries_at (widths_of l.c l.k) l.b 1 live l.s l.at (length l.s)) l.c l.k l.b l.s l.initial.d l.d l.to l.first l.opened l.p l.out

abbrev pub decreases-loop-value : goal.decreases-loop-value
decreases-loop-value l = length l.s - l.p
