-- A value that a callee gives, in the direction of a contract. Assumes nothing.
use mathlib.Core.Path.{◌≡◌, ap}
use mathlib.Core.Bool.{Bool, not}
use Prim.Native.Nat.{ℕ}
use Rattle.common.specs.Got.{got}
use Rattle.common.proofs.Choose.{told}

pub got_same : {A : Type 0} (v x : A) (n : ℕ) → v ≡ x → got v n ≡ got x n
got_same v x n e = ap (λ y. got y n) e

pub not_same : (t u : Bool) → t ≡ u → not t ≡ not u
not_same t u e = ap not e

pub ruleset given = (told, got_same, not_same)
