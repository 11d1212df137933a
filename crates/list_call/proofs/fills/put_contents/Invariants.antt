use Rattle.list_call.proofs.PutContents.{Filing}
use Rattle.data_contents.specs.Contents.{widths_of, contents_at}
use lib.ListN.{length}
use Prim.Native.Nat.{◌-◌}
use Rattle.list_call.proofs.fills.put_contents.Given as goal

abbrev pub invariant-loop-p : goal.invariant-loop-p
invariant-loop-p l = Filing (contents_at (widths_of l.c l.k) l.b l.s 0 (length l.s)) l.c l.k l.b l.s l.initial.d l.d l.p l.out

abbrev pub decreases-loop-p : goal.decreases-loop-p
decreases-loop-p l = length l.s - l.p
