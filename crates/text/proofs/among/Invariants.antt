use Rattle.text.proofs.Texts.{Seeking}
use Rattle.text.proofs.among.Given as goal

abbrev pub invariant-loop-i : goal.invariant-loop-i
invariant-loop-i l = Seeking l.c l.bytes l.i
