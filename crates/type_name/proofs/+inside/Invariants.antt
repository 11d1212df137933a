use Prim.Native.Nat.{◌-◌}
use lib.ListN.{length}
use Rattle.type_name.proofs.Parentheses.{Balancing}
use Rattle.type_name.proofs.+inside.Given as goal

abbrev pub decreases-inside : goal.decreases-inside
decreases-inside l = l.left

abbrev pub invariant-loop-i : goal.invariant-loop-i
invariant-loop-i l = Balancing l.s l.at l.left l.i

abbrev pub decreases-loop-i : goal.decreases-loop-i
decreases-loop-i l = length l.s - l.i
