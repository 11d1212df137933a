-- How long a line is at most, and the lines by their parts. Assumes nothing.
use mathlib.Core.Path.{◌≡◌, ap}
use mathlib.Core.List.{List, [], ◌∷◌, ◌++◌, append_assoc}
use Prim.Native.Nat.{ℕ, zero, suc, ◌+◌, ◌-◌, ◌/◌, ◌^◌, ◌≤◌, ◌<◌}
use native.Mathlib.Omega.{arith}
use borrow.Author.Tests.{ltb-false}
use lib.Dec.{ltb}
use lib.ListN.{length, length-append}
use mir.Syntax.{w64}
use mir.Val.{Fits}
use Rattle.text.specs.Text.{text}
use Rattle.common.specs.Refusals.{fault_number}
use Rattle.common.specs.Store.{Room, Puts}
use Rattle.common.specs.declared.refusal.Fault.{Fault}
use Rattle.common.specs.declared.refusal.Fault.TheVariants.{OverLimit, PastEnd, LeftOver, BadFlags, OutOfRange, OutOfTurn, NotCarried, TooMany, Repeated, BadRecord, Differs, RangeMarker, NoRoom}
use Rattle.common.specs.declared.refusal.Slice.{Slice}
use Rattle.common.specs.declared.refusal.Slice.TheVariants.{Statistics, Scylla, Data, Schema, Records, Bytes, Output, Bases, State}
use Rattle.common.proofs.Choose.{pick_ind}
use Rattle.common.proofs.Puts.{room_left, room_right, puts_then}
use Rattle.data_items.specs.declared.Item.{Item}
use Rattle.print_line.specs.Numbers.{digits, decimal, signed}
use Rattle.print_line.specs.Lines.{spaced, ended, pair_of, stamps_of, times_of, second_of, place_of, rest_of, tail_of, more_of, line_of, words_of, where_of, slice_name, refusal_line}

digits_most : (k f n : ℕ) → n < 10 ^ suc k → length (digits f n) ≤ suc k
unfolding digits
digits_most k zero n h = omega arith
digits_most zero (suc f) n h = pick_ind (λ (w : List ℕ). length w ≤ 1) _ _ (ltb n 10) (λ e. omega arith) (λ e. absurd (omega (arith, h, ltb-false n 10 e)))
digits_most (suc k) (suc f) n h =
    pick_ind (λ (w : List ℕ). length w ≤ suc (suc k)) _ _ (ltb n 10) (λ e. omega arith)
    (λ e. rw length-append (omega (arith, digits_most k f (n / 10) (omega (arith, h)))))

pub decimal_most : (n : ℕ) → n < 2 ^ 64 → length (decimal n) ≤ 20
unfolding decimal
decimal_most n h = digits_most 19 20 n (omega arith)

decimal_half : (n : ℕ) → n ≤ 2 ^ 63 → length (decimal n) ≤ 19
unfolding decimal
decimal_half n h = digits_most 18 20 n (omega arith)

pub signed_most : (x : ℕ) → x < 2 ^ 64 → length (signed x) ≤ 20
unfolding signed
signed_most x h =
    pick_ind (λ (w : List ℕ). length w ≤ 20) _ _ (ltb x (2 ^ 63))
    (λ e. omega (arith, decimal_half (2 ^ 63 - x) (omega arith)))
    (λ e. omega (arith, decimal_half (x - 2 ^ 63) (omega arith)))

length_spaced : (w : List ℕ) → length (spaced w) ≡ length w + 1
unfolding spaced
length_spaced w = length-append w (32 ∷ [])

length_ended : (w : List ℕ) → length (ended w) ≡ length w + 1
unfolding ended
length_ended w = length-append w (10 ∷ [])

-- ---- a record's line, by its parts
line_parts : (i : Item) → line_of i ≡ pair_of i.kind i.flags ++ more_of i
unfolding line_of pair_of more_of tail_of times_of stamps_of rest_of second_of place_of
line_parts i = simp append_assoc

plain_most : (n : ℕ) → Fits w64 n → length (spaced (decimal n)) ≤ 21
plain_most n h = rw (length_spaced (decimal n)) (omega (arith, decimal_most n (omega arith)))

stamp_most : (x : ℕ) → Fits w64 x → length (spaced (signed x)) ≤ 21
stamp_most x h = rw (length_spaced (signed x)) (omega (arith, signed_most x (omega arith)))

last_most : (n : ℕ) → Fits w64 n → length (ended (decimal n)) ≤ 21
last_most n h = rw (length_ended (decimal n)) (omega (arith, decimal_most n (omega arith)))

-- a record's numbers are those of a 64-bit machine
module _ (i : Item) (h₀ : Fits w64 i.kind) (h₁ : Fits w64 i.flags) (h₂ : Fits w64 i.column) (h₃ : Fits w64 i.ttl) (h₄ : Fits w64 i.timestamp)
    (h₅ : Fits w64 i.mark) (h₆ : Fits w64 i.local) (h₇ : Fits w64 i.expiry) (h₈ : Fits w64 i.mark2) (h₉ : Fits w64 i.local2)
    (ha : Fits w64 i.offset) (hb : Fits w64 i.length) where
  pub line_most : length (line_of i) ≤ 252
  unfolding line_of
  line_most =
      rw (length-append, length-append, length-append, length-append, length-append, length-append, length-append, length-append, length-append, length-append, length-append)
      (omega (arith, plain_most _ h₀, plain_most _ h₁, plain_most _ h₂, plain_most _ h₃, stamp_most _ h₄, stamp_most _ h₅, plain_most _ h₆, plain_most _ h₇, stamp_most _ h₈, plain_most _ h₉, plain_most _ ha, last_most _ hb))

  module _ (d : List ℕ) (at : ℕ) (r : at + 252 ≤ length d) where
    parts : Room d at (pair_of i.kind i.flags ++ more_of i)
    parts = rw (← line_parts i) (record { fits = omega (arith, line_most) })

    pub room_first : Room d at (pair_of i.kind i.flags)
    room_first = room_left d at _ _ parts

    pub room_more : (d' : List ℕ) (m : ℕ) → Puts d d' at (pair_of i.kind i.flags) m → Room d' m (more_of i)
    room_more d' m p = room_right d d' at m _ _ parts p

    pub puts_line : (d₁ d₂ : List ℕ) (m n : ℕ) → Puts d d₁ at (pair_of i.kind i.flags) m → Puts d₁ d₂ m (more_of i) n → Puts d d₂ at (line_of i) n
    puts_line d₁ d₂ m n p q = rw (line_parts i) (puts_then d d₁ d₂ at m n _ _ parts p q)

  pub ends_by : (d d₁ d₂ : List ℕ) (at m n : ℕ) → Puts d d₁ at (pair_of i.kind i.flags) m → Puts d₁ d₂ m (more_of i) n → n ≤ at + 252
  ends_by d d₁ d₂ at m n p q =
      omega (arith, p.next, q.next, line_most, ap length (line_parts i), length-append (pair_of i.kind i.flags) (more_of i))

-- ---- a refusal's line
refusal_parts : (f : Fault) (z : Slice) (p : ℕ) → refusal_line f z p ≡ words_of (fault_number f) ++ where_of z p
unfolding refusal_line words_of where_of
refusal_parts f z p = simp append_assoc

fault_most : (f : Fault) → fault_number f ≤ 13
fault_most OverLimit = omega arith
fault_most PastEnd = omega arith
fault_most LeftOver = omega arith
fault_most BadFlags = omega arith
fault_most OutOfRange = omega arith
fault_most OutOfTurn = omega arith
fault_most NotCarried = omega arith
fault_most TooMany = omega arith
fault_most Repeated = omega arith
fault_most BadRecord = omega arith
fault_most Differs = omega arith
fault_most RangeMarker = omega arith
fault_most NoRoom = omega arith

name_most : (z : Slice) → length (slice_name z) ≤ 10
name_most Statistics = omega arith
name_most Scylla = omega arith
name_most Data = omega arith
name_most Schema = omega arith
name_most Records = omega arith
name_most Bytes = omega arith
name_most Output = omega arith
name_most Bases = omega arith
name_most State = omega arith

module _ (f : Fault) (z : Slice) (p : ℕ) (h : Fits w64 p) where
  pub refusal_most : length (refusal_line f z p) ≤ 252
  unfolding refusal_line
  refusal_most =
      rw (length-append, length-append, length-append)
      (omega (arith, length_spaced (text "refused"), plain_most (fault_number f) (omega (arith, fault_most f)), length_spaced (slice_name z), name_most z, last_most p h))

  module _ (d : List ℕ) (at : ℕ) (r : at + 252 ≤ length d) (v : ℕ) (e : v ≡ fault_number f) where
    both : Room d at (words_of v ++ where_of z p)
    both = rw (e, ← refusal_parts f z p) (record { fits = omega (arith, refusal_most) })

    pub room_words : Room d at (words_of v)
    room_words = room_left d at _ _ both

    pub room_where : (d' : List ℕ) (m : ℕ) → Puts d d' at (words_of v) m → Room d' m (where_of z p)
    room_where d' m q = room_right d d' at m _ _ both q

    pub puts_refusal : (d₁ d₂ : List ℕ) (m n : ℕ) → Puts d d₁ at (words_of v) m → Puts d₁ d₂ m (where_of z p) n → Puts d d₂ at (refusal_line f z p) n
    puts_refusal d₁ d₂ m n q w = rw (refusal_parts f z p, ← e) (puts_then d d₁ d₂ at m n _ _ both q w)

    pub refusal_ends : (d₁ d₂ : List ℕ) (m n : ℕ) → Puts d d₁ at (words_of v) m → Puts d₁ d₂ m (where_of z p) n → n ≤ at + 252
    refusal_ends d₁ d₂ m n q w = let x = (puts_refusal d₁ d₂ m n q w).next in omega (arith, x, refusal_most)
