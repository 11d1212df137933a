use Rattle.list_count.proofs.Entries.{Entering}
use Rattle.list_count.specs.Counted.{entries_counted}
use Rattle.data_contents.specs.Contents.{widths_of, entries_at}
use Rattle.data_field.specs.Fields.{live}
use Prim.Native.Nat.{◌-◌}
use lib.ListN.{length}
use Rattle.list_count.proofs.counts.count_entries.Given as goal

abbrev pub invariant-loop-value : goal.invariant-loop-value
invariant-loop-value l = Entering (entries_counted l.n (entries_at (widths_of l.c l.k) l.b 1 live l.s l.at (length l.s))) l.c l.k l.b l.s l.first l.opened l.p l.count

abbrev pub decreases-loop-value : goal.decreases-loop-value
decreases-loop-value l = length l.s - l.p
