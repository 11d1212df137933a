use Rattle.list_count.proofs.Partitions.{Passing}
use Rattle.list_count.specs.Counted.{contents_counted}
use Rattle.data_contents.specs.Contents.{widths_of, contents_at}
use Prim.Native.Nat.{◌-◌}
use lib.ListN.{length}
use Rattle.list_count.proofs.counts.count_contents.Given as goal

abbrev pub invariant-loop-p : goal.invariant-loop-p
invariant-loop-p l = Passing (contents_counted 0 (contents_at (widths_of l.c l.k) l.b l.s 0 (length l.s))) l.c l.k l.b l.s l.p l.count

abbrev pub decreases-loop-p : goal.decreases-loop-p
decreases-loop-p l = length l.s - l.p
