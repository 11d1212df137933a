use Rattle.write_store.proofs.PutContents.{Filing}
use Rattle.write_accept.specs.Entries.{taken_at}
use Rattle.data_contents.specs.Contents.{widths_of}
use lib.ListN.{length}
use Prim.Native.Nat.{◌-◌}
use Rattle.write_store.proofs.whole.put_contents.Given as goal

abbrev pub invariant-loop-p : goal.invariant-loop-p
invariant-loop-p l = Filing (taken_at (widths_of l.c l.k) l.b l.bytes l.s 0 (length l.s)) l.c l.k l.b l.bytes l.s l.initial.d l.d l.p l.out

abbrev pub decreases-loop-p : goal.decreases-loop-p
decreases-loop-p l = length l.s - l.p
