use Prim.Native.Nat.{◌-◌}
use lib.ListN.{length}
use Rattle.data_contents.specs.Contents.{widths_of}
use Rattle.write_accept.specs.Entries.{taken_at}
use Rattle.write_measure.specs.Measured.{contents_measured}
use Rattle.write_measure.proofs.Loops.{Passing}
use Rattle.write_measure.proofs.whole.measure_contents.Given as goal

abbrev pub invariant-loop-p : goal.invariant-loop-p
invariant-loop-p l = Passing (contents_measured l.b (widths_of l.c l.k) l.bytes (taken_at (widths_of l.c l.k) l.b l.bytes l.s 0 (length l.s))) l.c l.k l.b l.s l.bytes l.p l.sum

abbrev pub decreases-loop-p : goal.decreases-loop-p
decreases-loop-p l = length l.s - l.p
