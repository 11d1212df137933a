-- Reading the right bounds alone, as the code does, passes what reading the ranges passes. Assumes nothing.
use mathlib.Core.Path.{◌≡◌, refl, sym, ap, ◌∙◌}
use mathlib.Core.Bool.{Bool, true, false}
use mathlib.Core.List.{List, ◌∷◌}
use Prim.Native.Nat.{ℕ, zero, suc}
use lib.Dec.{ltb}
use Rattle.common.specs.Choose.{pick}
use Rattle.common.specs.Got.{Got, got, bad, on, filled}
use Rattle.number_fixed.specs.BigEndian.{fixed_at}
use Rattle.common.specs.declared.refusal.Fault.{Fault}
use Rattle.common.specs.declared.refusal.Fault.TheVariants.{LeftOver}
use Rattle.scylla_sharding.specs.Regions.{times, passed}
use Rattle.scylla_sharding.specs.Ranges.{Range, range, left_at, right_at, ranges_after, range_after, first, ranges_at, sharding_at}
use Rattle.scylla_sharding.specs.declared.bound.Bound.{Bound}

module _ (s : List ℕ) (end : ℕ) where
  one_more : (g : Range) (x : Got (List Range)) → passed (on x (λ rs n. got (g ∷ rs) n)) ≡ passed x
  unfolding passed on
  one_more g (got rs n) = refl
  one_more g (bad f p) = refl

  right : (k : ℕ) (l : Bound) → ((n : ℕ) (r : Bound) → passed (ranges_after r k s n end) ≡ passed (times range_after k r s n end)) → (x : Got Bound)
      → passed (on x (λ r n. on (ranges_after r k s n end) (λ rs m. got (range l r ∷ rs) m))) ≡ passed (on x (λ r n. times range_after k r s n end))
  unfolding passed on
  right k l ih (got r n) = one_more (range l r) (ranges_after r k s n end) ∙ ih n r
  right k l ih (bad f p) = refl

  left : (k : ℕ) → ((n : ℕ) (r : Bound) → passed (ranges_after r k s n end) ≡ passed (times range_after k r s n end)) → (x : Got Bound)
      → passed (on x (λ l n. on (right_at l s n end) (λ r m. on (ranges_after r k s m end) (λ rs o. got (range l r ∷ rs) o)))) ≡ passed (on (on x (λ l n. right_at l s n end)) (λ r n. times range_after k r s n end))
  unfolding passed on
  left k ih (got l n) = right k l ih (right_at l s n end)
  left k ih (bad f p) = refl

  pub ranges_pass : (k at : ℕ) (r : Bound) → passed (ranges_after r k s at end) ≡ passed (times range_after k r s at end)
  unfolding ranges_after times range_after passed on
  ranges_pass zero at r = refl
  ranges_pass (suc k) at r = left k (λ n q. ranges_pass k n q) (left_at r s at end)

  -- nothing is left over at n
  abbrev ended : ℕ → Got (Unit {0})
  ended n = filled tt s n end

  pick_passed : {A : Type 0} (t : Bool) (a : A) (n : ℕ) → passed (pick t (bad LeftOver n) (got a n)) ≡ pick t (bad LeftOver n) (got tt n)
  unfolding passed on pick
  pick_passed true a n = refl
  pick_passed false a n = refl

  filled_passed : {A : Type 0} (x : Got A) → passed (on x (λ a n. filled a s n end)) ≡ on (passed x) (λ u n. ended n)
  unfolding passed on
  filled_passed (got a n) = pick_passed (ltb n end) a n
  filled_passed (bad f p) = refl

  on_passed : {A : Type 0} (x : Got A) → on (passed x) (λ u n. ended n) ≡ on x (λ a n. ended n)
  unfolding passed on
  on_passed (got a n) = refl
  on_passed (bad f p) = refl

  passed_bad : (f : Fault) (p : ℕ) → passed {A = List Range} (bad f p) ≡ bad f p
  unfolding passed on
  passed_bad f p = refl

  counted : (x : Got ℕ) → passed (on (on x (λ k n. ranges_after first k s n end)) (λ rs n. filled rs s n end)) ≡ on x (λ k n. on (times range_after k first s n end) (λ r m. ended m))
  unfolding on
  counted (got k n) =
      filled_passed (ranges_after first k s n end)
      ∙ ap (λ x. on x (λ u n. ended n)) (ranges_pass k n first)
      ∙ on_passed (times range_after k first s n end)
  counted (bad f p) = passed_bad f p

  pub by_right_bounds : (at : ℕ) (q : Got (Unit {0})) → q ≡ on (fixed_at 4 s at end) (λ k n. on (times range_after k first s n end) (λ r m. ended m)) → q ≡ passed (sharding_at s at end)
  unfolding sharding_at ranges_at
  by_right_bounds at q e = e ∙ sym (counted (fixed_at 4 s at end))
