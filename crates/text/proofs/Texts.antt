-- Texts compared, and a byte looked for in one: the laws of `same` and `among`, and of the loops over them. Assumes nothing.
use mathlib.Core.Path.{◌≡◌, refl, sym, ap, ◌∙◌}
use mathlib.Core.Bool.{Bool, true, false}
use mathlib.Core.List.{List, [], ◌∷◌}
use Prim.Native.Nat.{ℕ, suc, ◌+◌, ◌-◌, ◌≤◌, ◌<◌}
use native.Mathlib.Nat.{sub-zero}
use native.Mathlib.Omega.{arith}
use borrow.Author.Tests.{eq-eqb, ne_eqb}
use lib.Dec.{eqb, T, eqb→eq}
use lib.ListN.{length, get_or, take, drop, length-take}
use Rattle.std.proofs.Common.{◌&&◌}
use lib.Pointwise.{pointwise}
use Rattle.common.specs.Choose.{pick}
use Rattle.common.proofs.Choose.{pick_yes, pick_no, pick_ind}
use Rattle.text.specs.Text.{same, among}
use Rattle.text.specs.Text.{rest, starts_with}
use Rattle.text.proofs.Rest.{rest_all, rest_none, rest_some}

-- ---- tests that pass one after the other
pub first_passes : (a b : Bool) → T (pick a b false) → T a
unfolding pick
first_passes true b t = tt
first_passes false b t = t

pub then_passes : (a b : Bool) → T (pick a b false) → T b
unfolding pick
then_passes true b t = t
then_passes false b t = absurd t

-- ---- the same bytes
pub same_is : (xs ys : List ℕ) → T (same xs ys) → xs ≡ ys
unfolding same
same_is [] [] t = refl
same_is [] (y ∷ ys) t = absurd t
same_is (x ∷ xs) [] t = absurd t
same_is (x ∷ xs) (y ∷ ys) t =
    let e : x ≡ y = eqb→eq x y (first_passes (eqb x y) (same xs ys) t) in
    let f : xs ≡ ys = same_is xs ys (then_passes (eqb x y) (same xs ys) t) in
    cc

pub same_lengths : (xs ys : List ℕ) → (length xs ≡ length ys → ⊥) → false ≡ same xs ys
unfolding same
same_lengths [] [] h = absurd (h refl)
same_lengths [] (y ∷ ys) h = refl
same_lengths (x ∷ xs) [] h = refl
same_lengths (x ∷ xs) (y ∷ ys) h =
    pick_ind (λ b. false ≡ b) _ _ (eqb x y) (λ e. same_lengths xs ys (λ l. h (ap suc l))) (λ e. refl)

-- the library's comparison
both_pick : (t a b : Bool) → a ≡ b → t && a ≡ pick t b false
unfolding pick
both_pick true a b e = e
both_pick false a b e = refl

pointwise_same : (xs ys : List ℕ) → pointwise eqb xs ys ≡ same xs ys
unfolding same
pointwise_same [] [] = refl
pointwise_same [] (y ∷ ys) = refl
pointwise_same (x ∷ xs) [] = refl
pointwise_same (x ∷ xs) (y ∷ ys) = both_pick (eqb x y) _ _ (pointwise_same xs ys)

pub equal_is : (r : Bool) (xs ys : List ℕ) → r ≡ pointwise eqb xs ys → r ≡ same xs ys
equal_is r xs ys e = e ∙ pointwise_same xs ys

-- the loop that compares: the bytes before place i are the same
pub record Comparing (a b : List ℕ) (i : ℕ) : Type 0 where
  pub lengths : length a ≡ length b
  pub left : same (rest a i) (rest b i) ≡ same a b

pub comparing_none : (a b : List ℕ) → length a ≡ length b → Comparing a b 0
comparing_none a b h = record { lengths = h; left = rw (rest_all a, rest_all b) }

module _ (a b : List ℕ) (i : ℕ) (c : Comparing a b i) where
  step : i < length a → same (rest a i) (rest b i) ≡ pick (eqb (get_or a i 0) (get_or b i 0)) (same (rest a (i + 1)) (rest b (i + 1))) false
  unfolding same
  step h =
      let k : i < length b = omega (arith, c.lengths) in
      rw (rest_some a i h, rest_some b i k)

  pub comparing_index : i < length a → i < length b
  comparing_index h = omega (arith, c.lengths)

  pub comparing_unlike : i < length a → (get_or a i 0 ≡ get_or b i 0 → ⊥) → false ≡ same a b
  comparing_unlike h n = pick_no _ _ _ _ (ne_eqb _ _ n) refl ∙ sym (step h) ∙ c.left

  pub comparing_more : i < length a → get_or a i 0 ≡ get_or b i 0 → Comparing a b (i + 1)
  comparing_more h e = record { lengths = c.lengths; left = pick_yes _ _ _ _ (eq-eqb _ _ e) refl ∙ sym (step h) ∙ c.left }

  pub comparing_end : length a ≤ i → true ≡ same a b
  unfolding same
  comparing_end h =
      let k : length b ≤ i = omega (arith, c.lengths) in
      sym (rw (rest_none a i h, rest_none b i k) refl) ∙ c.left

pub ruleset comparing = (same_lengths, equal_is, comparing_none, comparing_index, comparing_unlike, comparing_more, comparing_end)

-- ---- a prefix
module _ (s p : List ℕ) where
  pub starts_short : length s < length p → false ≡ starts_with s p
  unfolding starts_with
  starts_short h = same_lengths _ p (λ e. absurd (omega (arith, simp length-take at e)))

  pub starts_same : (b : Bool) → b ≡ same (take (length p - 0) (drop 0 s)) p → b ≡ starts_with s p
  unfolding starts_with
  starts_same b e = rw (sub-zero (length p)) at e

  pub starts_fits : (b : Bool) → b ≡ starts_with s p → b ≡ true → length p ≤ length s
  unfolding starts_with
  starts_fits b e t =
      let f : take (length p) s ≡ p = same_is _ p (rw (sym e ∙ t) tt) in
      omega (arith, simp length-take at (ap length f))

pub ruleset starts = (starts_short, starts_same)

-- ---- a byte among others
-- the loop that looks for it: it is not before place i
pub record Seeking (x : ℕ) (s : List ℕ) (i : ℕ) : Type 0 where
  pub left : among x (rest s i) ≡ among x s

pub seeking_none : (x : ℕ) (s : List ℕ) → Seeking x s 0
seeking_none x s = record { left = rw (rest_all s) }

module _ (x : ℕ) (s : List ℕ) (i : ℕ) (c : Seeking x s i) where
  seek : i < length s → among x (rest s i) ≡ pick (eqb x (get_or s i 0)) true (among x (rest s (i + 1)))
  unfolding among
  seek h = rw (rest_some s i h)

  pub seeking_found : i < length s → x ≡ get_or s i 0 → true ≡ among x s
  seeking_found h e = pick_yes _ _ _ _ (eq-eqb _ _ e) refl ∙ sym (seek h) ∙ c.left

  pub seeking_more : i < length s → (x ≡ get_or s i 0 → ⊥) → Seeking x s (i + 1)
  seeking_more h n = record { left = pick_no _ _ _ _ (ne_eqb _ _ n) refl ∙ sym (seek h) ∙ c.left }

  pub seeking_end : length s ≤ i → false ≡ among x s
  unfolding among
  seeking_end h = sym (rw (rest_none s i h) refl) ∙ c.left

pub ruleset seeking = (seeking_none, seeking_found, seeking_more, seeking_end)
