-- A list of bytes that is not longer than n: of numbers as they are spelled, of parts, and of lists one behind the other. Assumes nothing.
use mathlib.Core.Path.{refl}
use mathlib.Core.List.{List, [], ◌∷◌, ◌++◌}
use Prim.Native.Nat.{ℕ, zero, suc, ◌+◌, ◌/◌, ◌%◌, ◌^◌, ◌≤◌, ◌<◌}
use native.Mathlib.Omega.{arith}
use lib.ListN.{length, get_or, take, drop, length-append, length-take, length-drop}
use Rattle.number_fixed.specs.BigEndian.{bytes_of}
use Rattle.common.specs.Store.{part, shown}
use Rattle.number_varint.specs.Varints.{shortest, form, extra}
use Rattle.common.proofs.Choose.{pick_ind}
use Rattle.number_fixed.proofs.BigEndian.{length_bytes_of}
use Rattle.number_varint.proofs.Shortest.{extra_le, first_lt, length_shortest}

-- at most n bytes, each below 256
pub record Within (n : ℕ) (w : List ℕ) : Type 0 where
  pub most : length w ≤ n
  pub bytes : (i : ℕ) → get_or w i 0 < 256

-- ---- lists
byte_append : (v w : List ℕ) → ((i : ℕ) → get_or v i 0 < 256) → ((i : ℕ) → get_or w i 0 < 256) → (i : ℕ) → get_or (v ++ w) i 0 < 256
byte_append [] w f g i = g i
byte_append (x ∷ v) w f g zero = f zero
byte_append (x ∷ v) w f g (suc i) = byte_append v w (λ j. f (suc j)) g i

pub append : (m n : ℕ) (v w : List ℕ) → Within m v → Within n w → Within (m + n) (v ++ w)
append m n v w f g = record { most = omega (arith, length-append v w, f.most, g.most); bytes = byte_append v w f.bytes g.bytes }

pub wider : (m n : ℕ) (w : List ℕ) → m ≤ n → Within m w → Within n w
wider m n w l h = record { most = omega (arith, h.most); bytes = h.bytes }

pub nothing : Within 0 []
nothing = record { most = omega arith; bytes = λ i. omega arith }

pub cons_byte : (x : ℕ) (w : List ℕ) → x < 256 → ((i : ℕ) → get_or w i 0 < 256) → (i : ℕ) → get_or (x ∷ w) i 0 < 256
cons_byte x w h g zero = h
cons_byte x w h g (suc i) = g i

pub one : (x : ℕ) → x < 256 → Within 1 (x ∷ [])
one x h = record { most = omega arith; bytes = cons_byte x [] h (λ i. omega arith) }

-- ---- numbers
fixed_byte : (x n i : ℕ) → get_or (bytes_of x n) i 0 < 256
unfolding bytes_of
fixed_byte x zero i = omega arith
fixed_byte x (suc n) i = cons_byte (x / 256 ^ n % 256) (bytes_of x n) (omega arith) (fixed_byte x n) i

pub fixed_within : (x n : ℕ) → Within n (bytes_of x n)
fixed_within x n = record { most = omega (arith, length_bytes_of x n); bytes = fixed_byte x n }

pub shortest_within : (x : ℕ) → x < 2 ^ 64 → Within 9 (shortest x)
unfolding shortest form
shortest_within x l = record {
  most = omega (arith, length_shortest x, extra_le 8 x);
  bytes = cons_byte _ (bytes_of x (extra 8 x)) (first_lt x (extra 8 x) l refl) (fixed_byte x (extra 8 x));
}

-- ---- parts
byte_drop : (n : ℕ) (w : List ℕ) → ((i : ℕ) → get_or w i 0 < 256) → (i : ℕ) → get_or (drop n w) i 0 < 256
byte_drop zero w f i = f i
byte_drop (suc n) [] f i = f i
byte_drop (suc n) (x ∷ w) f i = byte_drop n w (λ j. f (suc j)) i

byte_take : (n : ℕ) (w : List ℕ) → ((i : ℕ) → get_or w i 0 < 256) → (i : ℕ) → get_or (take n w) i 0 < 256
byte_take zero w f i = omega arith
byte_take (suc n) [] f i = f i
byte_take (suc n) (x ∷ w) f zero = f zero
byte_take (suc n) (x ∷ w) f (suc i) = byte_take n w (λ j. f (suc j)) i

pub shown_within : (n : ℕ) (s : List ℕ) (start len : ℕ) → Within n s → Within n (shown s start len)
unfolding shown part
shown_within n s start len h =
    pick_ind (Within n) _ _ _ (λ e. wider 0 n [] (omega arith) nothing) (λ e.
    pick_ind (Within n) _ _ _ (λ f. wider 0 n [] (omega arith) nothing) (λ f. record {
      most = simp (length-take, length-drop) (omega (arith, h.most));
      bytes = byte_take len (drop start s) (byte_drop start s h.bytes);
    }))
