-- The columns of a prefix are the first of the table's. Assumes nothing.
use Rattle.common.specs.Got.{Reading, said}
use Rattle.std.proofs.Common.{Ok, Continue}
use Rattle.std.specs.Result.{result_from_control_flow}
use mathlib.Core.Path.{◌≡◌, refl, sym, ap, ◌∙◌}
use mathlib.Core.List.{List, ◌∷◌}
use Prim.Native.Nat.{ℕ, zero, suc, ◌+◌, ◌*◌, ◌≤◌}
use native.Mathlib.Nat.{le_of_suc-le-suc, not-suc-le-zero}
use native.Mathlib.Omega.{arith}
use borrow.Author.Tests.{ltb-false}
use lib.Dec.{ltb}
use lib.ListN.{length, get_or, take}
use Rattle.common.proofs.Gives.{gives_got, gives_bad, gives_on, gives_pick, gives_is}
use Rattle.common.proofs.Said.{said_got, tried}
use Rattle.data_clustering.specs.Prefixes.{prefix_at, widths_at}
use Rattle.data_clustering.proofs.Loops.{widths_count}
use Rattle.data_clustering.specs.declared.prefixes.Prefix.{Prefix}
use Rattle.data_marker.specs.Kinds.{count_at}

-- the count of the columns of a schema
pub count_of : (r : Reading ℕ) (c : List ℕ) (p k : ℕ) (s : List ℕ) (at end : ℕ) → said r ≡ count_at k s at end → said r ≡ count_at (length (widths_at c p k)) s at end
count_of r c p k s at end e = rw (widths_count c p k) e

pub count_within : (r : Reading ℕ) (k : ℕ) (s : List ℕ) (at end v n : ℕ) → said r ≡ count_at k s at end → r ≡ Ok (v, n) → v ≤ k
unfolding count_at
count_within r k s at end v n e f =
    gives_is
    {P = λ x m. x ≤ k}
    (gives_on {P = λ x m. Unit} _ (record { given = λ x m g. tt }) (λ x m u.
    gives_pick (ltb k x) (λ g. gives_bad _ _) (λ g. gives_got _ _ (ltb-false k x g))))
    (said_got r _ v n e f)

-- its records lie in the schema
pub count_fits : (r : Reading ℕ) (b : _) (k : ℕ) (s : List ℕ) (at end v n size : ℕ) → said r ≡ count_at k s at end → r ≡ result_from_control_flow b
    → b ≡ Continue (v, n) → 16 + 16 * k ≤ size → 16 + 16 * v ≤ size
count_fits r b k s at end v n size e f g h = omega (arith, count_within r k s at end v n e (tried r b (v, n) f g))

take_widths : (c : List ℕ) (p k v : ℕ) → v ≤ k → take v (widths_at c p k) ≡ widths_at c p v
unfolding widths_at
take_widths c p k zero h = refl
take_widths c p zero (suc v) h = absurd (not-suc-le-zero h)
take_widths c p (suc k) (suc v) h = ap (λ (x : List ℕ). get_or c (p + 3) 0 ∷ x) (take_widths c (p + 16) k v (le_of_suc-le-suc h))

-- the prefix of so many of the columns of a schema
pub prefix_of : (q : Reading Prefix) (r : Reading ℕ) (b : _) (c : List ℕ) (p k : ℕ) (s : List ℕ) (at end v n m : ℕ) → said r ≡ count_at k s at end
    → r ≡ result_from_control_flow b → b ≡ Continue (v, n) → said q ≡ prefix_at (widths_at c p v) s m end → said q ≡ prefix_at (take v (widths_at c p k)) s m end
prefix_of q r b c p k s at end v n m e f g h =
    h ∙ ap (λ (x : List ℕ). prefix_at x s m end) (sym (take_widths c p k v (count_within r k s at end v n e (tried r b (v, n) f g))))
