use Rattle.write_store.proofs.PutEntries.{Storing}
use Rattle.write_store.specs.Parts.{entries_written}
use Rattle.write_accept.specs.Entries.{taken_entries}
use Rattle.data_contents.specs.Contents.{widths_of}
use Rattle.data_field.specs.Fields.{live}
use lib.ListN.{length}
use Prim.Native.Nat.{◌-◌}
use Rattle.write_store.proofs.whole.put_entries.Given as goal

abbrev pub invariant-loop-p : goal.invariant-loop-p
invariant-loop-p l = Storing (taken_entries (widths_of l.c l.k) l.b l.bytes 1 live l.s l.at (length l.s)) (entries_written l.b (widths_of l.c l.k) l.bytes l.start (taken_entries (widths_of l.c l.k) l.b l.bytes 1 live l.s l.at (length l.s))) l.c l.k l.b l.bytes l.s l.initial.d l.d l.to l.p l.out l.back

abbrev pub decreases-loop-p : goal.decreases-loop-p
decreases-loop-p l = length l.s - l.p
