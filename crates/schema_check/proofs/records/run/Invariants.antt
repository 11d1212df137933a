use Prim.Native.Nat.{◌-◌}
use Rattle.schema_check.proofs.Runs.{Running}
use Rattle.schema_check.proofs.records.run.Given as goal

abbrev pub invariant-loop-n : goal.invariant-loop-n
invariant-loop-n l = Running l.limit l.role l.s l.from l.most l.n
