use Prim.Native.Nat.{◌-◌}
use lib.ListN.{length}
use Rattle.data_field.specs.Fields.{live}
use Rattle.data_contents.specs.Contents.{widths_of}
use Rattle.write_accept.specs.Entries.{taken_entries}
use Rattle.write_measure.specs.Measured.{entries_measured}
use Rattle.write_measure.proofs.Loops.{Entering}
use Rattle.write_measure.proofs.whole.measure_entries.Given as goal

abbrev pub invariant-loop-kind : goal.invariant-loop-kind
invariant-loop-kind l = Entering (entries_measured l.b (widths_of l.c l.k) l.bytes l.head l.total (taken_entries (widths_of l.c l.k) l.b l.bytes 1 live l.s l.at (length l.s))) l.c l.k l.b l.s l.bytes l.first l.opened l.back l.sum l.p

abbrev pub decreases-loop-kind : goal.decreases-loop-kind
decreases-loop-kind l = length l.s - l.p
