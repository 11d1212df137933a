use Prim.Native.Nat.{◌-◌}
use Rattle.schema_column.proofs.Loops.{Ordered}
use Rattle.schema_column.proofs.first_unordered.Given as goal

abbrev pub invariant-loop-i : goal.invariant-loop-i
invariant-loop-i l = Ordered l.schema l.n l.i
