-- Calls that store one after the other: `search puts` finds that each has room, and what they leave. Assumes nothing.
use Rattle.std.proofs.Common.{◌≡◌, ℕ, Some, None, ◌+◌, ◌-◌, ◌^◌, ◌<◌, ◌≤◌, Bool, true, false, leb, List, [], ◌++◌, length, get_or, take, drop, set, sym, refl, ap, ◌∙◌, append-nil, add-zero, arith, length-append, length-drop, length-set, take-append-drop, length-take, get_or-drop, get_or-take, w64, Fits, le-ltb, le-leb}
use borrow.Author.Tests.{lt-leb}
use Rattle.common.specs.Choose.{pick}
use Rattle.common.specs.Store.{splice, part, Room, Puts, stored, storing, Stores, shown}
use Rattle.common.proofs.Choose.{pick_yes, pick_no}
use Rattle.common.proofs.Splices.{filled, filled_none, filled_more, filled_all, splice_splice, length_splice}

pub room_left : (d : List ℕ) (at : ℕ) (v w : List ℕ) → Room d at (v ++ w) → Room d at v
room_left d at v w r = record { fits = omega (arith, length-append v w, r.fits) }

pub puts_same : (d d' : List ℕ) (at : ℕ) (w : List ℕ) (n : ℕ) → Room d at w → Puts d d' at w n → length d' ≡ length d
puts_same d d' at w n r p = rw p.stores (length_splice d at w r.fits)

pub room_right : (d d' : List ℕ) (at n : ℕ) (v w : List ℕ) → Room d at (v ++ w) → Puts d d' at v n → Room d' n w
room_right d d' at n v w r p =
    let k : length d' ≡ length d = puts_same d d' at v n (room_left d at v w r) p in
    record { fits = omega (arith, length-append v w, r.fits, p.next) }

pub puts_none : (d : List ℕ) (at : ℕ) → Puts d d at [] at
unfolding splice
puts_none d at = record { next = omega arith; stores = rw (add-zero at, append-nil (take at d)) (sym (take-append-drop at d)) }

pub puts_then : (d d₁ d₂ : List ℕ) (at n m : ℕ) (v w : List ℕ) → Room d at (v ++ w) → Puts d d₁ at v n → Puts d₁ d₂ n w m → Puts d d₂ at (v ++ w) m
puts_then d d₁ d₂ at n m v w r p q = record {
  next = omega (arith, length-append v w, p.next, q.next);
  stores = rw (q.stores, p.stores) (splice_splice d at n v w p.next (omega (arith, length-append v w, r.fits)));
}

pub puts_yes : (d d' : List ℕ) (at n : ℕ) (t : Bool) (v w : List ℕ) → t ≡ true → Puts d d' at v n → Puts d d' at (pick t v w) n
unfolding pick
puts_yes d d' at n t v w e p = rw e p

pub puts_no : (d d' : List ℕ) (at n : ℕ) (t : Bool) (v w : List ℕ) → t ≡ false → Puts d d' at w n → Puts d d' at (pick t v w) n
unfolding pick
puts_no d d' at n t v w e p = rw e p

pub room_yes : (d : List ℕ) (at : ℕ) (t : Bool) (v w : List ℕ) → Room d at (pick t v w) → t ≡ true → Room d at v
unfolding pick
room_yes d at t v w r e = rw e at r

pub room_no : (d : List ℕ) (at : ℕ) (t : Bool) (v w : List ℕ) → Room d at (pick t v w) → t ≡ false → Room d at w
unfolding pick
room_no d at t v w r e = rw e at r

pub ruleset puts = (room_left, room_right, puts_same, puts_none, puts_then, puts_yes, puts_no, room_yes, room_no)

pub room_is : (d : List ℕ) (at : ℕ) (w : List ℕ) (n : ℕ) → length w ≡ n → at ≤ length d → n ≤ length d - at → Room d at w
room_is d at w n l h k = record { fits = omega arith }

-- ---- stores that test whether there is room
stores_not : (d : List ℕ) (at : ℕ) (w : List ℕ) → leb (at + length w) (length d) ≡ false → Stores d d at w None
unfolding stored storing
stores_not d at w h = record { answer = pick_no _ _ _ _ h refl; buffer = pick_no _ _ _ _ h refl }

pub stores_over : (d : List ℕ) (at : ℕ) (w : List ℕ) (n : ℕ) → length w ≡ n → at ≤ length d → length d - at < n → Stores d d at w None
stores_over d at w n l k h = stores_not d at w (lt-leb (at + length w) (length d) (omega arith))

pub stores_past : (d : List ℕ) (at : ℕ) (w : List ℕ) → length d < at → Stores d d at w None
stores_past d at w h = stores_not d at w (lt-leb (at + length w) (length d) (omega arith))

pub stores_fits : (d d' : List ℕ) (at : ℕ) (w : List ℕ) (n : ℕ) → Room d at w → Puts d d' at w n → Stores d d' at w (Some n)
unfolding stored storing
stores_fits d d' at w n r p = record {
  answer = pick_yes _ _ _ _ (le-leb (at + length w) (length d) r.fits) (ap Some p.next);
  buffer = pick_yes _ _ _ _ (le-leb (at + length w) (length d) r.fits) p.stores;
}

-- ---- a loop that stores the list w element by element: the first i stand in d, which was d₀
pub record Storing (w d₀ d : List ℕ) (at i : ℕ) : Type 0 where
  pub within : i ≤ length w
  pub same : length d ≡ length d₀
  pub stores : d ≡ filled d₀ at w i

pub storing_none : (w d : List ℕ) (at : ℕ) → Storing w d d at 0
storing_none w d at = record { within = omega arith; same = refl; stores = filled_none d at w }

module _ (w d₀ d : List ℕ) (at i n : ℕ) (c : Storing w d₀ d at i) (l : length w ≡ n) (r : Room d₀ at w) where
  pub storing_index : i < n → at + i < length d
  storing_index h = omega (arith, r.fits, c.same)

  pub storing_sum : length d₀ < 2 ^ 64 → i < n → Fits w64 (at + i)
  storing_sum k h = omega (arith, r.fits)

  pub storing_more : (v : ℕ) → i < n → v ≡ get_or w i 0 → Storing w d₀ (set d (at + i) v) at (i + 1)
  storing_more v h e = record {
    within = omega arith;
    same = simp length-set c.same;
    stores = rw c.stores (filled_more d₀ at w i v (omega (arith, r.fits)) (omega arith) e);
  }

  pub storing_next : length d₀ < 2 ^ 64 → Fits w64 (at + n)
  storing_next k = omega (arith, r.fits)

  pub storing_end : n ≤ i → Puts d₀ d at w (at + n)
  storing_end h = record { next = omega arith; stores = c.stores ∙ filled_all d₀ at w i (omega (arith, c.within)) }

pub storing_same : (w d₀ d : List ℕ) (at i : ℕ) → Storing w d₀ d at i → length d ≡ length d₀
storing_same w d₀ d at i c = c.same

pub ruleset stores = (storing_none, storing_index, storing_sum, storing_more, storing_next, storing_end, storing_same)

-- ---- a part of a slice
pub length_part : (s : List ℕ) (start len : ℕ) → start + len ≤ length s → length (part s start len) ≡ len
unfolding part
length_part s start len h = simp (length-take, length-drop) (omega arith)

pub part_at : (s : List ℕ) (start len i : ℕ) → i < len → get_or s (start + i) 0 ≡ get_or (part s start len) i 0
unfolding part
part_at s start len i h = rw (get_or-take, get_or-drop)

-- a part, as a range of a slice gives it
pub shown_whole : (s : List ℕ) (start len : ℕ) → start ≤ length s → len ≤ length s - start → take (start + len - start) (drop start s) ≡ shown s start len
unfolding shown part
shown_whole s start len h k =
    let e : start + len - start ≡ len = omega arith in
    rw e (pick_no _ _ _ _ (le-ltb (length s) start h) (pick_no _ _ _ _ (le-ltb (length s - start) len k) refl))
