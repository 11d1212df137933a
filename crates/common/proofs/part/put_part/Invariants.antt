use Rattle.common.specs.Store.{part}
use Rattle.common.proofs.Puts.{Storing}
use Rattle.common.proofs.part.put_part.Given as goal

abbrev pub invariant-loop-i : goal.invariant-loop-i
invariant-loop-i l = Storing (part l.s l.start l.len) l.initial.d l.d l.at l.i
