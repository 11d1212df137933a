-- The bytes from a place on: none where the place is the end, else the byte there and the bytes from the next. Assumes nothing.
use mathlib.Core.Path.{◌≡◌, refl}
use mathlib.Core.List.{List, [], ◌∷◌}
use Prim.Native.Nat.{ℕ, ◌+◌, ◌-◌, ◌≤◌, ◌<◌}
use native.Mathlib.Numerals.{add-one}
use lib.ListN.{length, get_or, drop_of_length-le, length-drop}
use lib.Seq.{drop-cons}
use Rattle.text.specs.Text.{rest}

pub rest_all : (s : List ℕ) → rest s 0 ≡ s
unfolding rest
rest_all s = refl

module _ (s : List ℕ) (i : ℕ) where
  pub rest_none : length s ≤ i → rest s i ≡ []
  unfolding rest
  rest_none h = drop_of_length-le s h

  pub rest_some : i < length s → rest s i ≡ get_or s i 0 ∷ rest s (i + 1)
  unfolding rest
  rest_some h = rw (add-one, drop-cons s i 0)

  pub length_rest : length (rest s i) ≡ length s - i
  unfolding rest
  length_rest = length-drop i s
