-- Bytes, digits and texts that are stored: what `search` needs for the code's stores. Assumes nothing.
use mathlib.Core.Path.{◌≡◌, refl, sym, ◌∙◌}
use mathlib.Core.List.{List, [], ◌∷◌, ◌++◌}
use Prim.Native.Nat.{ℕ, ◌+◌, ◌-◌, ◌/◌, ◌%◌, ◌^◌, ◌≤◌, ◌<◌}
use native.Mathlib.Omega.{arith}
use borrow.Author.Tests.{lt-ltb, le-ltb}
use lib.ListN.{length, set}
use lib.Seq.{take-length}
use mir.Syntax.{w64}
use mir.Val.{Fits}
use Rattle.common.specs.Store.{part, Room, Puts}
use Rattle.common.specs.declared.refusal.Slice.{Slice}
use Rattle.common.proofs.Choose.{pick_yes, pick_no}
use Rattle.common.proofs.Puts.{room_left, room_right, puts_then, puts_none}
use Rattle.common.proofs.Splices.{splice_cons}
use Rattle.print_line.specs.Numbers.{decimal, signed}
use Rattle.print_line.specs.Lines.{spaced, slice_name}
use Rattle.print_line.proofs.Digits.{decimal_one, decimal_more}

pub puts_byte : (d : List ℕ) (at b : ℕ) → Room d at (b ∷ []) → Puts d (set d at b) at (b ∷ []) (at + 1)
puts_byte d at b r = record { next = refl; stores = (puts_none (set d at b) (at + 1)).stores ∙ splice_cons d at b [] (omega (arith, r.fits)) }

-- ---- a number's digits
module _ (d : List ℕ) (at n : ℕ) where
  pub room_one : Room d at (decimal n) → n < 10 → Room d at ((48 + n) ∷ [])
  room_one r h = rw (decimal_one n h) at r

  pub puts_one : (d' : List ℕ) (m : ℕ) → Puts d d' at ((48 + n) ∷ []) m → n < 10 → Puts d d' at (decimal n) m
  puts_one d' m p h = rw (decimal_one n h) p

  module _ (r : Room d at (decimal n)) (h : 10 ≤ n) (l : Fits w64 n) where
    more : Room d at (decimal (n / 10) ++ ((48 + n % 10) ∷ []))
    more = rw (decimal_more n h (omega arith)) at r

    pub room_most : Room d at (decimal (n / 10))
    room_most = room_left d at _ _ more

    pub room_last : (d' : List ℕ) (m : ℕ) → Puts d d' at (decimal (n / 10)) m → Room d' m ((48 + n % 10) ∷ [])
    room_last d' m p = room_right d d' at m _ _ more p

    pub puts_more : (d₁ d₂ : List ℕ) (m z : ℕ) → Puts d d₁ at (decimal (n / 10)) m → Puts d₁ d₂ m ((48 + n % 10) ∷ []) z → Puts d d₂ at (decimal n) z
    puts_more d₁ d₂ m z p q = rw (decimal_more n h (omega arith)) (puts_then d d₁ d₂ at m z _ _ more p q)

-- ---- a signed number
module _ (d : List ℕ) (at x : ℕ) where
  signed_below : x < 2 ^ 63 → signed x ≡ (45 ∷ []) ++ decimal (2 ^ 63 - x)
  unfolding signed
  signed_below h = sym (pick_yes _ _ _ _ (lt-ltb x (2 ^ 63) h) refl)

  signed_above : 2 ^ 63 ≤ x → signed x ≡ decimal (x - 2 ^ 63)
  unfolding signed
  signed_above h = sym (pick_no _ _ _ _ (le-ltb x (2 ^ 63) h) refl)

  minus : Room d at (signed x) → x < 2 ^ 63 → Room d at ((45 ∷ []) ++ decimal (2 ^ 63 - x))
  minus r h = rw (signed_below h) at r

  pub room_minus : Room d at (signed x) → x < 2 ^ 63 → Room d at (45 ∷ [])
  room_minus r h = room_left d at (45 ∷ []) _ (minus r h)

  pub room_below : (d' : List ℕ) (m : ℕ) → Room d at (signed x) → x < 2 ^ 63 → Puts d d' at (45 ∷ []) m → Room d' m (decimal (2 ^ 63 - x))
  room_below d' m r h p = room_right d d' at m (45 ∷ []) _ (minus r h) p

  pub puts_below : (d₁ d₂ : List ℕ) (m z : ℕ) → Room d at (signed x) → x < 2 ^ 63 → Puts d d₁ at (45 ∷ []) m → Puts d₁ d₂ m (decimal (2 ^ 63 - x)) z
      → Puts d d₂ at (signed x) z
  puts_below d₁ d₂ m z r h p q = rw (signed_below h) (puts_then d d₁ d₂ at m z (45 ∷ []) _ (minus r h) p q)

  pub room_above : Room d at (signed x) → 2 ^ 63 ≤ x → Room d at (decimal (x - 2 ^ 63))
  room_above r h = rw (signed_above h) at r

  pub puts_above : (d' : List ℕ) (m : ℕ) → Puts d d' at (decimal (x - 2 ^ 63)) m → 2 ^ 63 ≤ x → Puts d d' at (signed x) m
  puts_above d' m p h = rw (signed_above h) p

-- ---- a text
module _ (d : List ℕ) (at : ℕ) (w : List ℕ) where
  part_all : part w 0 (length w) ≡ w
  unfolding part
  part_all = take-length w

  pub room_text : Room d at (spaced w) → (0 + length w ≤ length w) × Room d at (part w 0 (length w))
  unfolding spaced
  room_text r = (omega arith, rw part_all (room_left d at w _ r))

  pub room_space : (d' : List ℕ) (m : ℕ) → Room d at (spaced w) → Puts d d' at (part w 0 (length w)) m → Room d' m (32 ∷ [])
  unfolding spaced
  room_space d' m r p = room_right d d' at m w _ r (rw part_all at p)

  pub puts_text : (d₁ d₂ : List ℕ) (m z : ℕ) → Room d at (spaced w) → Puts d d₁ at (part w 0 (length w)) m → Puts d₁ d₂ m (32 ∷ []) z → Puts d d₂ at (spaced w) z
  unfolding spaced
  puts_text d₁ d₂ m z r p q = puts_then d d₁ d₂ at m z w _ r (rw part_all at p) q

-- ---- a slice's name
pub room_named : (y : Slice) (d : List ℕ) (at : ℕ) (z : Slice) → Room d at (spaced (slice_name z)) → z ≡ y → Room d at (spaced (slice_name y))
room_named y d at z r e = rw e at r

pub puts_named : (y : Slice) (d d' : List ℕ) (at n : ℕ) (z : Slice) → Puts d d' at (spaced (slice_name y)) n → z ≡ y → Puts d d' at (spaced (slice_name z)) n
puts_named y d d' at n z p e = rw e p
