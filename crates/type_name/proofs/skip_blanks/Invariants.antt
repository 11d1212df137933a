use Prim.Native.Nat.{◌-◌}
use lib.ListN.{length}
use Rattle.type_name.specs.Names.{blank}
use Rattle.type_name.proofs.Scans.{Passing}
use Rattle.type_name.proofs.skip_blanks.Given as goal

abbrev pub invariant-loop-i : goal.invariant-loop-i
invariant-loop-i l = Passing blank l.s l.at l.i
