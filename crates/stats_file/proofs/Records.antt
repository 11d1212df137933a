-- The records of columns: their lengths, and how they are stored. Assumes nothing.
use Rattle.std.proofs.Common.{◌≡◌, ℕ, ◌+◌, ◌*◌, ◌^◌, ◌<◌, ◌≤◌, List, [], ◌∷◌, ◌++◌, length, set, sym, refl, ◌∙◌, append_assoc, arith, length-append, length-set, w64, Fits}
use Rattle.common.specs.Store.{Room, Puts, splice}
use Rattle.number_fixed.proofs.BigEndian.{length_bytes_of}
use Rattle.common.proofs.Splices.{splice_cons}
use Rattle.common.proofs.Puts.{puts_none}
use Rattle.schema_column.specs.declared.Column.{Column}
use Rattle.stats_file.specs.Header.{head_of, place_of, tail_of, record_of, records_of}

pub length_head : (c : Column) → length (head_of c) ≡ 4
unfolding head_of
length_head c = refl

pub length_place : (c : Column) → length (place_of c) ≡ 8
unfolding place_of
length_place c = rw (length-append, length_bytes_of, length_bytes_of) refl

pub length_record : (c : Column) → length (record_of c) ≡ 16
unfolding record_of tail_of
length_record c = rw (length-append, length_head, length-append, length_place, length_bytes_of) refl

pub records_append : (cs ds : List Column) → records_of (cs ++ ds) ≡ records_of cs ++ records_of ds
unfolding records_of
records_append [] ds = refl
records_append (c ∷ cs) ds = rw (records_append cs ds) (sym (append_assoc (record_of c) (records_of cs) (records_of ds)))

pub length_records : (cs : List Column) → length (records_of cs) ≡ 16 * length cs
unfolding records_of
length_records [] = refl
length_records (c ∷ cs) = rw length-append (omega (arith, length_record c, length_records cs))

-- ---- four bytes, one after the other
module _ (d : List ℕ) (at : ℕ) (c : Column) (r : Room d at (head_of c)) where
  head_room : at + 4 ≤ length d
  head_room = omega (arith, r.fits, length_head c)

  pub head_first : at < length d
  head_first = omega (arith, head_room)

  pub head_second : (a : ℕ) → at + 1 < length (set d at a)
  head_second a = simp length-set (omega (arith, head_room))

  pub head_third : (a b : ℕ) → at + 2 < length (set (set d at a) (at + 1) b)
  head_third a b = simp length-set (omega (arith, head_room))

  pub head_fourth : (a b e : ℕ) → at + 3 < length (set (set (set d at a) (at + 1) b) (at + 2) e)
  head_fourth a b e = simp length-set (omega (arith, head_room))

  pub head_puts : Puts d (set (set (set (set d at c.role) (at + 1) c.line) (at + 2) c.reversed) (at + 3) c.width) at (head_of c) (at + 4)
  unfolding head_of
  head_puts =
      let a = c.role in
      let b = c.line in
      let e = c.reversed in
      let f = c.width in
      let s1 = set d at a in
      let s2 = set s1 (at + 1) b in
      let s3 = set s2 (at + 2) e in
      let e2 : at + 1 + 1 ≡ at + 2 = omega arith in
      let e3 : at + 2 + 1 ≡ at + 3 = omega arith in
      let p3 : splice (set s3 (at + 3) f) (at + 3 + 1) [] ≡ splice s3 (at + 3) (f ∷ []) = splice_cons s3 (at + 3) f [] (head_fourth a b e) in
      let p2 : splice s3 (at + 3) (f ∷ []) ≡ splice s2 (at + 2) (e ∷ f ∷ []) = rw (← e3) (splice_cons s2 (at + 2) e (f ∷ []) (head_third a b)) in
      let p1 : splice s2 (at + 2) (e ∷ f ∷ []) ≡ splice s1 (at + 1) (b ∷ e ∷ f ∷ []) = rw (← e2) (splice_cons s1 (at + 1) b (e ∷ f ∷ []) (head_second a)) in
      let p0 : splice s1 (at + 1) (b ∷ e ∷ f ∷ []) ≡ splice d at (a ∷ b ∷ e ∷ f ∷ []) = splice_cons d at a (b ∷ e ∷ f ∷ []) head_first in
      record { next = refl; stores = (puts_none (set s3 (at + 3) f) (at + 3 + 1)).stores ∙ p3 ∙ p2 ∙ p1 ∙ p0 }

  pub head_same : (a b e f : ℕ) → length (set (set (set (set d at a) (at + 1) b) (at + 2) e) (at + 3) f) ≡ length d
  head_same a b e f = simp length-set

  pub head_sum : (k : ℕ) → length d < 2 ^ 64 → k ≤ 4 → Fits w64 (at + k)
  head_sum k h l = omega (arith, head_room)

pub ruleset heads = (head_first, head_second, head_third, head_fourth, head_puts, head_same, head_sum)
