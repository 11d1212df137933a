-- Loops over the characters of a type string. Assumes nothing.
use mathlib.Core.Path.{◌≡◌, refl, sym, ◌∙◌}
use mathlib.Core.Bool.{Bool, true, false}
use mathlib.Core.List.{List, [], ◌∷◌, ◌++◌, append_assoc, append-nil}
use Prim.Native.Nat.{ℕ, suc, ◌+◌, ◌-◌, ◌≤◌, ◌<◌}
use native.Mathlib.Nat.{sub_self}
use native.Mathlib.Omega.{arith}
use lib.ListN.{length, get_or, drop, length-drop}
use lib.Seq.{take-suc, get_or-drop}
use Rattle.common.specs.Store.{part}
use Rattle.common.proofs.Choose.{pick_yes, pick_no}
use Rattle.type_name.specs.Names.{past, up_to}
use Rattle.type_name.specs.Parts.{Passed}
use Rattle.text.specs.Text.{rest}
use Rattle.text.proofs.Rest.{rest_none, rest_some}

part_more : (s : List ℕ) (at i : ℕ) → at ≤ i → i < length s → part s at (i + 1 - at) ≡ part s at (i - at) ++ get_or s i 0 ∷ []
unfolding part
part_more s at i h k =
    let e : i + 1 - at ≡ suc (i - at) = omega arith in
    let f : at + (i - at) ≡ i = omega arith in
    let g : i - at < length (drop at s) = rw (length-drop at s) (omega arith) in
    rw (e, take-suc (drop at s) (i - at) 0 g, get_or-drop at s (i - at) 0, f)

-- from place at on, the characters up to place i pass the test
pub record Passing (f : ℕ → Bool) (s : List ℕ) (at i : ℕ) : Type 0 where
  pub least : at ≤ i
  pub most : i ≤ length s
  pub run : part s at (i - at) ++ up_to f (rest s i) ≡ up_to f (rest s at)
  pub left : past f (rest s i) ≡ past f (rest s at)

pub passing_none : (f : ℕ → Bool) (s : List ℕ) (at : ℕ) → at ≤ length s → Passing f s at at
unfolding part
passing_none f s at h = record { least = omega arith; most = h; run = rw (sub_self at) refl; left = refl }

module _ (f : ℕ → Bool) (s : List ℕ) (at i : ℕ) (c : Passing f s at i) (b : Bool) (h : i < length s) (e : b ≡ f (get_or s i 0)) where
  pub passing_more : b ≡ true → Passing f s at (i + 1)
  unfolding past up_to
  passing_more t =
      let k : f (get_or s i 0) ≡ true = sym e ∙ t in
      let u : up_to f (rest s i) ≡ get_or s i 0 ∷ up_to f (rest s (i + 1)) = rw (rest_some s i h) (sym (pick_yes _ _ _ _ k refl)) in
      let v : past f (rest s i) ≡ past f (rest s (i + 1)) = rw (rest_some s i h) (sym (pick_yes _ _ _ _ k refl)) in
      record {
        least = omega (arith, c.least);
        most = omega arith;
        run = rw (part_more s at i c.least h, append_assoc) (rw u at c.run);
        left = sym v ∙ c.left;
      }

  pub passing_stop : b ≡ false → Passed f s at i
  unfolding past up_to
  passing_stop t =
      let k : f (get_or s i 0) ≡ false = sym e ∙ t in
      let u : up_to f (rest s i) ≡ [] = rw (rest_some s i h) (sym (pick_no _ _ _ _ k refl)) in
      let v : past f (rest s i) ≡ rest s i = rw (rest_some s i h) (sym (pick_no _ _ _ _ k refl)) in
      record { least = c.least; most = c.most; run = rw (u, append-nil) at c.run; left = sym v ∙ c.left }

pub passing_end : (f : ℕ → Bool) (s : List ℕ) (at i : ℕ) → Passing f s at i → length s ≤ i → Passed f s at i
unfolding past up_to
passing_end f s at i c h =
    let u : up_to f (rest s i) ≡ [] = rw (rest_none s i h) refl in
    let v : past f (rest s i) ≡ rest s i = rw (rest_none s i h) refl in
    record { least = c.least; most = c.most; run = rw (u, append-nil) at c.run; left = sym v ∙ c.left }

pub ruleset passing = (passing_none, passing_more, passing_stop, passing_end)
