use Rattle.text.proofs.Texts.{Comparing}
use Rattle.text.proofs.equal.Given as goal

abbrev pub invariant-loop-i : goal.invariant-loop-i
invariant-loop-i l = Comparing l.a l.b l.i
