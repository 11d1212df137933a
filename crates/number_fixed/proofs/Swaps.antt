-- Bytes in the other order: four and eight of a number that is stored or read in one go. Assumes nothing.
use mathlib.Core.Path.{◌≡◌, refl, sym, ap, ◌∙◌}
use mathlib.Core.List.{List, [], ◌∷◌, ◌++◌}
use Prim.Native.Nat.{ℕ, zero, suc, ◌+◌, ◌-◌, ◌*◌, ◌/◌, ◌%◌, ◌^◌, ◌≤◌, ◌<◌}
use native.Mathlib.Nat.{pow-suc, mul_assoc}
use native.Mathlib.Omega.{arith}
use lib.ListN.{length, get_or, set, get_or-eq_default, length-set}
use mir.Syntax.{w64}
use mir.Val.{Fits}
use Rattle.number_fixed.specs.BigEndian.{big_endian, bytes_of, swap_four, swap_eight, four_of, little_four}
use Rattle.common.specs.Store.{Room, Puts, splice}
use Rattle.number_fixed.proofs.BigEndian.{be_lt, length_bytes_of, width_fits}
use Rattle.common.proofs.Splices.{splice_cons}
use Rattle.common.proofs.Puts.{puts_none, room_left, room_right, puts_then}

-- ---- a number that is stored
pub swap_four_lt : (x : ℕ) → swap_four x < 4294967296
unfolding swap_four
swap_four_lt x = omega arith

-- two of them side by side fit 64 bits
pub swap_scaled : (x v : ℕ) → v ≡ swap_four x → Fits w64 (v * 4294967296)
swap_scaled x v e = omega (arith, swap_four_lt x)

pub swap_sum : (x y v w : ℕ) → v ≡ swap_four x → w ≡ swap_four y → Fits w64 (v * 4294967296 + w)
swap_sum x y v w e f = omega (arith, swap_four_lt x, swap_four_lt y)

same_four : (a b c d e f g h : ℕ) → a ≡ e → b ≡ f → c ≡ g → d ≡ h → (a ∷ b ∷ c ∷ d ∷ []) ≡ (e ∷ f ∷ g ∷ h ∷ [])
same_four a b c d e f g h i j k l = rw (i, j, k, l) refl

-- a number by its four bytes
top : (k e : ℕ) → e < 256 → (k * 256 + e) / 256 ≡ k
top k e h = omega arith

end : (k e : ℕ) → e < 256 → (k * 256 + e) % 256 ≡ e
end k e h = omega arith

module _ (a b c e : ℕ) (i : a < 256) (j : b < 256) (k : c < 256) (l : e < 256) where
  abbrev spelt : ℕ
  spelt = ((a * 256 + b) * 256 + c) * 256 + e

  byte_0 : spelt % 256 ≡ e
  byte_0 = end _ e l

  byte_1 : spelt / 256 % 256 ≡ c
  byte_1 = rw (top ((a * 256 + b) * 256 + c) e l) (end (a * 256 + b) c k)

  byte_2 : spelt / 65536 % 256 ≡ b
  byte_2 =
      let q : spelt / 65536 ≡ spelt / 256 / 256 = omega arith in
      rw (q, top ((a * 256 + b) * 256 + c) e l, top (a * 256 + b) c k) (end a b j)

  byte_3 : spelt / 16777216 % 256 ≡ a
  byte_3 =
      let q : spelt / 16777216 ≡ spelt / 256 / 256 / 256 = omega arith in
      rw (q, top ((a * 256 + b) * 256 + c) e l, top (a * 256 + b) c k, top a b j) (omega arith)

  four_spelt : four_of spelt ≡ e ∷ c ∷ b ∷ a ∷ []
  unfolding four_of
  four_spelt = same_four _ _ _ _ _ _ _ _ byte_0 byte_1 byte_2 byte_3

  swap_spelt : swap_four spelt ≡ ((e * 256 + c) * 256 + b) * 256 + a
  unfolding swap_four
  swap_spelt = rw (byte_0, byte_1, byte_2, byte_3) refl

pub four_swapped : (x : ℕ) → four_of (swap_four x) ≡ bytes_of x 4
unfolding swap_four bytes_of
four_swapped x =
    let e : x / 256 ^ 0 % 256 ≡ x % 256 = omega arith in
    four_spelt (x % 256) (x / 256 % 256) (x / 65536 % 256) (x / 16777216 % 256) (omega arith) (omega arith) (omega arith) (omega arith) ∙ rw e refl

-- what stands above the four lowest bytes does not matter
low_0 : (a b : ℕ) → (a * 4294967296 + b) % 256 ≡ b % 256
low_0 a b = omega arith

low_1 : (a b : ℕ) → (a * 4294967296 + b) / 256 % 256 ≡ b / 256 % 256
low_1 a b = omega arith

low_2 : (a b : ℕ) → (a * 4294967296 + b) / 65536 % 256 ≡ b / 65536 % 256
low_2 a b = omega arith

low_3 : (a b : ℕ) → (a * 4294967296 + b) / 16777216 % 256 ≡ b / 16777216 % 256
low_3 a b = omega arith

four_low : (a b : ℕ) → four_of (a * 4294967296 + b) ≡ four_of b
unfolding four_of
four_low a b = same_four _ _ _ _ _ _ _ _ (low_0 a b) (low_1 a b) (low_2 a b) (low_3 a b)

eight_parts : (x : ℕ) → bytes_of x 8 ≡ bytes_of (x / 4294967296) 4 ++ bytes_of x 4
unfolding bytes_of
eight_parts x =
    ap (λ (l : List ℕ). l ++ bytes_of x 4) (same_four _ _ _ _ _ _ _ _ (omega arith) (omega arith) (omega arith) (omega arith))

pub eight_swapped : (x y : ℕ) → y ≡ swap_eight x → bytes_of x 8 ≡ four_of y ++ four_of (y / 4294967296)
unfolding swap_eight
eight_swapped x y e =
    let h : y / 4294967296 ≡ swap_four x = omega (arith, swap_four_lt (x / 4294967296)) in
    rw (h, e, four_low (swap_four x) (swap_four (x / 4294967296)), four_swapped x, four_swapped (x / 4294967296)) (eight_parts x)

-- one byte, and four
put_last : (d : List ℕ) (at v : ℕ) → at < length d → set d at v ≡ splice d at (v ∷ [])
put_last d at v h = (puts_none (set d at v) (at + 1)).stores ∙ splice_cons d at v [] h

one_byte_of : (x : ℕ) → bytes_of x 1 ≡ x % 256 ∷ []
unfolding bytes_of
one_byte_of x = let e : x / 256 ^ 0 % 256 ≡ x % 256 = omega arith in rw e refl

module _ (d : List ℕ) (at x : ℕ) (r : Room d at (bytes_of x 1)) where
  pub one_index : at < length d
  one_index = omega (arith, r.fits, length_bytes_of x 1)

  pub one_puts : Puts d (set d at (x % 256)) at (bytes_of x 1) (at + 1)
  one_puts = record { next = omega (arith, length_bytes_of x 1); stores = rw (one_byte_of x) (put_last d at (x % 256) one_index) }

module _ (d : List ℕ) (at y : ℕ) (r : Room d at (four_of y)) where
  room : at + 4 ≤ length d
  unfolding four_of
  room = r.fits

  pub four_index : at < length d
  four_index = omega (arith, room)

  pub four_index_1 : (a : ℕ) → at + 1 < length (set d at a)
  four_index_1 a = rw length-set (omega (arith, room))

  pub four_index_2 : (a b : ℕ) → at + 2 < length (set (set d at a) (at + 1) b)
  four_index_2 a b = rw (length-set, length-set) (omega (arith, room))

  pub four_index_3 : (a b c : ℕ) → at + 3 < length (set (set (set d at a) (at + 1) b) (at + 2) c)
  four_index_3 a b c = rw (length-set, length-set, length-set) (omega (arith, room))

  pub four_puts : Puts d (set (set (set (set d at (y % 256)) (at + 1) (y / 256 % 256)) (at + 2) (y / 65536 % 256)) (at + 3) (y / 16777216 % 256)) at (four_of y) (at + 4)
  unfolding four_of
  four_puts =
      let d₁ = set d at (y % 256) in
      let d₂ = set d₁ (at + 1) (y / 256 % 256) in
      let d₃ = set d₂ (at + 2) (y / 65536 % 256) in
      let e₂ : at + 1 + 1 ≡ at + 2 = omega arith in
      let e₃ : at + 2 + 1 ≡ at + 3 = omega arith in
      record {
        next = refl;
        stores =
            put_last d₃ (at + 3) (y / 16777216 % 256) (four_index_3 (y % 256) (y / 256 % 256) (y / 65536 % 256))
            ∙ ap (λ (k : ℕ). splice d₃ k (y / 16777216 % 256 ∷ [])) (sym e₃)
            ∙ splice_cons d₂ (at + 2) (y / 65536 % 256) (y / 16777216 % 256 ∷ []) (four_index_2 (y % 256) (y / 256 % 256))
            ∙ ap (λ (k : ℕ). splice d₂ k (y / 65536 % 256 ∷ y / 16777216 % 256 ∷ [])) (sym e₂)
            ∙ splice_cons d₁ (at + 1) (y / 256 % 256) (y / 65536 % 256 ∷ y / 16777216 % 256 ∷ []) (four_index_1 (y % 256))
            ∙ splice_cons d at (y % 256) (y / 256 % 256 ∷ y / 65536 % 256 ∷ y / 16777216 % 256 ∷ []) four_index;
      }

-- eight, as two times four
module _ (d : List ℕ) (at x y : ℕ) (e : y ≡ swap_eight x) (r : Room d at (bytes_of x 8)) where
  pub eight_room : Room d at (four_of y ++ four_of (y / 4294967296))
  eight_room = rw (← eight_swapped x y e) r

  pub eight_first : Room d at (four_of y)
  eight_first = room_left d at (four_of y) (four_of (y / 4294967296)) eight_room

  module _ (d₁ : List ℕ) (a : ℕ) (p : Puts d d₁ at (four_of y) a) where
    pub eight_second : Room d₁ a (four_of (y / 4294967296))
    eight_second = room_right d d₁ at a (four_of y) (four_of (y / 4294967296)) eight_room p

    pub eight_puts : (d₂ : List ℕ) (n : ℕ) → Puts d₁ d₂ a (four_of (y / 4294967296)) n → Puts d d₂ at (bytes_of x 8) n
    eight_puts d₂ n q = rw (eight_swapped x y e) (puts_then d d₁ d₂ at a n (four_of y) (four_of (y / 4294967296)) eight_room p q)

-- by the width
module _ (d : List ℕ) (at x n m : ℕ) (e : n ≡ m) where
  pub width_room : Room d at (bytes_of x n) → Room d at (bytes_of x m)
  width_room r = rw (← e) r

  pub width_puts : (d' : List ℕ) (r : ℕ) → Puts d d' at (bytes_of x m) r → Puts d d' at (bytes_of x n) r
  width_puts d' r p = rw e p

module _ (d : List ℕ) (at x n y : ℕ) (e : n ≡ 4) (f : y ≡ swap_four x) where
  pub four_room : Room d at (bytes_of x n) → Room d at (four_of y)
  four_room r = rw (f, four_swapped x, ← e) r

  pub four_width : (d' : List ℕ) (r : ℕ) → Puts d d' at (four_of y) r → Puts d d' at (bytes_of x n) r
  four_width d' r p = rw (e, ← four_swapped x, ← f) p

pub ruleset widths = (width_room, width_puts, four_room, four_width)

-- ---- a number that is read
module _ (s : List ℕ) (b : (k : ℕ) → get_or s k 0 < 256) (at : ℕ) where
  pub little_lt : little_four s at < 4294967296
  unfolding little_four
  little_lt = omega (arith, b at, b (at + 1), b (at + 2), b (at + 3))

  pub little_scaled : (h : ℕ) → h ≡ little_four s at → Fits w64 (h * 4294967296)
  little_scaled h e = omega (arith, little_lt)

  swap_little : swap_four (little_four s at) ≡ big_endian 0 s at 4
  unfolding little_four big_endian
  swap_little =
      let e : at + 0 ≡ at = omega arith in
      let f : get_or s at 0 + get_or s (at + 1) 0 * 256 + get_or s (at + 2) 0 * 65536 + get_or s (at + 3) 0 * 16777216
      ≡ ((get_or s (at + 3) 0 * 256 + get_or s (at + 2) 0) * 256 + get_or s (at + 1) 0) * 256 + get_or s at 0 = omega arith in
      rw (e, f, swap_spelt _ _ _ _ (b (at + 3)) (b (at + 2)) (b (at + 1)) (b at)) (omega arith)

pub four_read : (s : List ℕ) → ((k : ℕ) → get_or s k 0 < 256) → (at x v : ℕ) → x ≡ little_four s at → v ≡ swap_four x → v ≡ big_endian 0 s at 4
four_read s b at x v e f = f ∙ rw e (swap_little s b at)

pub little_sum : (s : List ℕ) → ((k : ℕ) → get_or s k 0 < 256) → (at to l h : ℕ) → l ≡ little_four s at → h ≡ little_four s to → Fits w64 (l + h * 4294967296)
little_sum s b at to l h e f = omega (arith, little_lt s b at, little_lt s b to)

-- the number of the first m bytes, and of the n behind them
pub be_split : (acc : ℕ) (s : List ℕ) (at m n : ℕ) → big_endian acc s at (m + n) ≡ big_endian acc s at m * 256 ^ n + big_endian 0 s (at + m) n
unfolding big_endian
be_split acc s at m zero = let e : m + 0 ≡ m = omega arith in rw e (omega arith)
be_split acc s at m (suc n) =
    let e : m + suc n ≡ suc (m + n) = omega arith in
    let f : at + m + n ≡ at + (m + n) = omega arith in
    rw (e, f, be_split acc s at m n, pow-suc, ← mul_assoc) (omega arith)

swap_low : (a b : ℕ) → swap_four (a * 4294967296 + b) ≡ swap_four b
unfolding swap_four
swap_low a b = rw (low_0 a b, low_1 a b, low_2 a b, low_3 a b) refl

pub eight_read : (s : List ℕ) → ((k : ℕ) → get_or s k 0 < 256) → (at l h : ℕ) → l ≡ little_four s at → h ≡ little_four s (at + 4)
    → swap_eight (l + h * 4294967296) ≡ big_endian 0 s at 8
unfolding swap_eight
eight_read s b at l h e f =
    let c : l + h * 4294967296 ≡ h * 4294967296 + l = omega arith in
    let k : (h * 4294967296 + l) / 4294967296 ≡ h = rw e (omega (arith, little_lt s b at)) in
    rw (c, k, swap_low h l, e, f, swap_little s b at, swap_little s b (at + 4)) (sym (be_split 0 s at 4 4))

-- near the end of the slice, byte by byte
pub padded_none : (s : List ℕ) (at k : ℕ) → k < 1 → 0 ≡ big_endian 0 s at k
unfolding big_endian
padded_none s at k h = let e : k ≡ 0 = omega arith in rw e refl

be_step : (s : List ℕ) (at k : ℕ) → 0 < k → big_endian 0 s at k ≡ big_endian 0 s at (k - 1) * 256 + get_or s (at + (k - 1)) 0
unfolding big_endian
be_step s at k h = let e : k ≡ suc (k - 1) = omega arith in ap (big_endian 0 s at) e

pub padded_past : (s : List ℕ) (at k v : ℕ) → 1 ≤ k → v ≡ big_endian 0 s at (k - 1) → length s - at < k → at ≤ length s → v * 256 ≡ big_endian 0 s at k
padded_past s at k v h e l m =
    let z : get_or s (at + (k - 1)) 0 ≡ 0 = get_or-eq_default s 0 (omega arith) in
    rw (be_step s at k h, z, e) (omega arith)

pub padded_more : (s : List ℕ) (at k v c : ℕ) → 1 ≤ k → v ≡ big_endian 0 s at (k - 1) → c ≡ get_or s (at + (k - 1)) 0 → v * 256 + c ≡ big_endian 0 s at k
padded_more s at k v c h e f = rw (be_step s at k h, e, f) refl

module _ (s : List ℕ) (b : (k : ℕ) → get_or s k 0 < 256) (at k v : ℕ) (e : v ≡ big_endian 0 s at (k - 1)) (h : 1 ≤ k) (l : k ≤ 8) where
  fits : (v + 1) * 256 ≤ 2 ^ 64
  fits =
      let m : (0 + 1) * 256 ^ k ≤ 2 ^ 64 = width_fits k l in
      let f : k ≡ suc (k - 1) = omega arith in
      let g : 256 ^ k ≡ 256 ^ (k - 1) * 256 = ap (λ (j : ℕ). 256 ^ j) f ∙ pow-suc 256 (k - 1) in
      omega (arith, m, g, be_lt 0 s at (k - 1) b)

  pub padded_scaled : Fits w64 (v * 256)
  padded_scaled = omega (arith, fits)

  pub padded_sum : (c : ℕ) → c < 256 → Fits w64 (v * 256 + c)
  padded_sum c i = omega (arith, fits)

pub ruleset padding = (padded_none, padded_past, padded_more)
