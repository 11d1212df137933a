use Prim.Native.Nat.{◌-◌}
use lib.ListN.{length}
use Rattle.type_name.specs.Names.{of_name}
use Rattle.type_name.proofs.Scans.{Passing}
use Rattle.type_name.proofs.name_end.Given as goal

abbrev pub invariant-loop-i : goal.invariant-loop-i
invariant-loop-i l = Passing of_name l.s l.at l.i
