-- Bytes that stand somewhere before an end. Assumes nothing.
use Rattle.std.proofs.Common.{◌≡◌, ℕ, ◌+◌, ◌<◌, ◌≤◌, List, [], ◌∷◌, ◌++◌, length, get_or, take, drop, refl, ◌∙◌, add-zero, add_assoc, arith, length-append, length-drop, length-take, get_or-drop, get_or-take, get_or-append-add, ext_get_or}
use lib.ListN.{get_or-append}
use Rattle.common.specs.Store.{Room, Puts, part}
use Rattle.common.proofs.Splices.{get_d_splice}
use Rattle.common.proofs.Puts.{puts_same}

-- the bytes w stand in s from place at up to place n, before end
pub record Stands (s : List ℕ) (end at n : ℕ) (w : List ℕ) : Type 0 where
  pub stop : n ≡ at + length w
  pub within : n ≤ end
  pub inside : end ≤ length s
  pub bytes : (i : ℕ) → i < length w → get_or s (at + i) 0 ≡ get_or w i 0

module _ (s : List ℕ) (end at n : ℕ) (v w : List ℕ) (h : Stands s end at n (v ++ w)) where
  pub stands_left : Stands s end at (at + length v) v
  stands_left = record {
    stop = refl;
    within = omega (arith, length-append v w, h.stop, h.within);
    inside = h.inside;
    bytes = λ i l. h.bytes i (omega (arith, length-append v w)) ∙ get_or-append v w 0 i l;
  }

  pub stands_right : Stands s end (at + length v) n w
  stands_right = record {
    stop = omega (arith, length-append v w, h.stop);
    within = h.within;
    inside = h.inside;
    bytes = λ i l. rw (add_assoc at (length v) i) (h.bytes (length v + i) (omega (arith, length-append v w)) ∙ get_or-append-add v w i 0);
  }

pub stands_byte : (s : List ℕ) (end at n x : ℕ) → Stands s end at n (x ∷ []) → get_or s at 0 ≡ x
stands_byte s end at n x h = rw (add-zero at) at (h.bytes 0 (omega arith))

pub stands_part : (s : List ℕ) (end at n : ℕ) (w : List ℕ) → Stands s end at n w → part s at (length w) ≡ w
unfolding part
stands_part s end at n w h =
    let l : length (take (length w) (drop at s)) ≡ length w = simp (length-take, length-drop) (omega (arith, h.stop, h.within, h.inside)) in
    ext_get_or 0 _ w l (λ i k. rw (get_or-take (length w) (drop at s) i 0 (omega arith), get_or-drop at s i 0) (h.bytes i (omega arith)))

-- what was put stands
pub stands_put : (d d' : List ℕ) (end at n : ℕ) (w : List ℕ) → Room d at w → Puts d d' at w n → n ≤ end → end ≤ length d → Stands d' end at n w
stands_put d d' end at n w r p h k = record {
  stop = p.next;
  within = h;
  inside = omega (arith, puts_same d d' at w n r p);
  bytes = λ i l. rw p.stores (get_d_splice d at w i (at + i) (omega (arith, r.fits)) l refl);
}

-- in the region that ends with them
pub narrow : (s : List ℕ) (end at n : ℕ) (w : List ℕ) → Stands s end at n w → Stands s n at n w
narrow s end at n w h = record {
  stop = h.stop;
  within = omega arith;
  inside = omega (arith, h.within, h.inside);
  bytes = h.bytes;
}
