-- A cell read by its parts, as the code reads it: the timestamp and then the rest; the expiry and then the value. Assumes nothing.
use mathlib.Core.Path.{◌≡◌, refl, ◌∙◌}
use mathlib.Core.Bool.{Bool, true, false}
use mathlib.Core.List.{List}
use Prim.Native.Nat.{ℕ, ◌/◌, ◌%◌}
use lib.Dec.{eqb}
use Rattle.common.specs.Choose.{pick}
use Rattle.common.specs.Got.{Got, got, bad, on}
use Rattle.common.specs.declared.times.Bases.{Bases}
use Rattle.common.proofs.Choose.{pick_no}
use Rattle.data_field.specs.Fields.{timestamp_at, local_at, ttl_at}
use Rattle.data_cell.specs.Cells.{last_at, expiring_at, content_at, timed_at, time_at, own_at, lasting_at}
use Rattle.data_cell.specs.declared.cells.Times.{Times}
use Rattle.data_cell.specs.declared.cells.Cell.{Cell}

-- what follows either of two readings follows the one that is picked
on_pick : {A B : Type 0} (t : Bool) (x y : Got A) (k : A → ℕ → Got B) → on (pick t x y) k ≡ pick t (on x k) (on y k)
unfolding pick
on_pick true x y k = refl
on_pick false x y k = refl

on_on : {A B C : Type 0} (x : Got A) (k : A → ℕ → Got B) (h : B → ℕ → Got C) → on (on x k) h ≡ on x (λ a n. on (k a n) h)
unfolding on
on_on (got a n) k h = refl
on_on (bad f p) k h = refl

own_then : {B : Type 0} (x : Got ℕ) (t : ℕ → Got ℕ) (k : ℕ × ℕ × ℕ → ℕ → Got B)
    → on (on x (λ a n. on (t n) (λ c m. got (1, a, c) m))) k ≡ on x (λ a n. on (t n) (λ c m. k (1, a, c) m))
unfolding on
own_then (got a n) t k = on_on (t n) _ k
own_then (bad f p) t k = refl

either : {B : Type 0} (p r : Bool) (l m : ℕ) (at : ℕ) (x : Got ℕ) (t : ℕ → Got ℕ) (k : ℕ × ℕ × ℕ → ℕ → Got B)
    → on (pick p (pick r (got (1, l, m) at) (on x (λ a n. on (t n) (λ c o. got (1, a, c) o)))) (got (0, 0, 0) at)) k
    ≡ pick p (pick r (k (1, l, m) at) (on x (λ a n. on (t n) (λ c o. k (1, a, c) o)))) (k (0, 0, 0) at)
unfolding pick on
either true true l m at x t k = refl
either true false l m at x t k = own_then x t k
either false r l m at x t k = refl

module _ (b : Bases) (row : Times) (w f : ℕ) (s : List ℕ) (at end : ℕ) (q : Got Cell) where
  pub timed_is : q ≡ on (time_at b row f s at end) (λ t n. content_at b row w f t s n end) → q ≡ timed_at b row w f s at end
  unfolding timed_at time_at on
  timed_is e = e ∙ on_pick (eqb (f / 8 % 2) 1) (got row.timestamp at) (timestamp_at b s at end) (λ t n. content_at b row w f t s n end)

  module _ (t : ℕ) where
    lasting : on (lasting_at b row f s at end) (λ x n. last_at w f x.0 t x.1 x.2 s n end)
        ≡ pick (eqb (f / 2 % 2) 1) (expiring_at b row w f t s at end) (last_at w f 0 t 0 0 s at end)
    unfolding lasting_at own_at expiring_at
    lasting =
        either (eqb (f / 2 % 2) 1) (eqb (f / 16 % 2) 1) row.local row.ttl at (local_at b s at end) (λ n. ttl_at b s n end)
        (λ x n. last_at w f x.0 t x.1 x.2 s n end)

    pub content_is : eqb (f % 2) 1 ≡ false → q ≡ on (lasting_at b row f s at end) (λ x n. last_at w f x.0 t x.1 x.2 s n end) → q ≡ content_at b row w f t s at end
    unfolding content_at
    content_is d e = pick_no _ _ _ _ d (e ∙ lasting)

pub ruleset parts = (timed_is, content_is)
