use Prim.Native.Nat.{◌+◌, ◌*◌, ◌-◌}
use Rattle.stats_contents.proofs.Pairs.{Pairing}
use Rattle.stats_contents.proofs.contents.pairs.Given as goal

abbrev pub invariant-loop : goal.invariant-loop
invariant-loop l = Pairing l.n (4 + 8 * l.n) l.s l.at l.end l.c l.p l.counter
