use Prim.Native.Nat.{◌-◌}
use Rattle.type_table.proofs.Rows.{Finding}
use Rattle.type_table.proofs.find.Given as goal

abbrev pub invariant-loop-line : goal.invariant-loop-line
invariant-loop-line l = Finding l.name l.line
