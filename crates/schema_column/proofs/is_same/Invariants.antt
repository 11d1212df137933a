use Prim.Native.Nat.{◌-◌}
use Rattle.schema_column.proofs.Loops.{Alike}
use Rattle.schema_column.proofs.is_same.Given as goal

abbrev pub invariant-loop-i : goal.invariant-loop-i
invariant-loop-i l = Alike l.a l.t l.b l.u l.n l.i
