use Prim.Native.Nat.{◌-◌}
use Rattle.number_fixed.specs.BigEndian.{bytes_of}
use Rattle.common.proofs.Puts.{Storing}
use Rattle.number_fixed.proofs.put_each.Given as goal

abbrev pub invariant-loop-i : goal.invariant-loop-i
invariant-loop-i l = Storing (bytes_of l.x l.n) l.initial.d l.d l.at l.i
