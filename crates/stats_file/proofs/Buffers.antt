-- The buffer of schema records: what it holds after one more is stored. Assumes nothing.
use Rattle.std.proofs.Common.{◌≡◌, ℕ, zero, suc, ◌+◌, ◌-◌, ◌*◌, ◌^◌, ◌<◌, List, [], ◌∷◌, ◌++◌, length, get_or, sym, refl, ap, ◌∙◌, append-nil, add-zero, arith, length-append, get_or-append-add}
use native.Mathlib.Decide.{dec_lt}
use lib.ListN.{get_or-append}
use Rattle.number_fixed.specs.BigEndian.{big_endian, bytes_of}
use Rattle.common.specs.Store.{Room, Puts}
use Rattle.number_fixed.proofs.BigEndian.{length_bytes_of, spelled_back, be_agrees}
use Rattle.common.proofs.Splices.{get_d_before}
use Rattle.common.proofs.Puts.{puts_same}
use Rattle.common.proofs.Stands.{Stands, stands_left, stands_right, stands_put}
use Rattle.schema_check.specs.Records.{role_at, line_at, mark_at, width_at, name_at, name_len_at}
use Rattle.schema_column.specs.Columns.{column_at}
use Rattle.schema_column.specs.declared.Column.{Column}
use Rattle.stats_file.specs.Header.{head_of, place_of, tail_of, record_of, records_of}
use Rattle.stats_file.specs.Buffer.{columns_from, Kept, Holds}
use Rattle.stats_file.proofs.Records.{length_place, length_record, records_append}

-- ---- a record that stands is that of its column
module _ (d : List ℕ) (end at n : ℕ) (c : Column) (h : Stands d end at n (record_of c)) where
  byte : (i : ℕ) → i < 4 → get_or d (at + i) 0 ≡ get_or (record_of c) i 0
  byte i l = h.bytes i (omega (arith, length_record c))

  place : Stands d end (at + 4) (at + 4 + 8) (place_of c)
  unfolding record_of tail_of head_of
  place = rw (length_place c) at (stands_left d end (at + 4) n (place_of c) (bytes_of 0 4) (stands_right d end at n (head_of c) (tail_of c) h))

  name_back : c.name < 256 ^ 4 → big_endian 0 d (at + 4) 4 ≡ c.name
  unfolding place_of
  name_back l = spelled_back 4 d end (at + 4) _ c.name l (stands_left d end (at + 4) _ (bytes_of c.name 4) (bytes_of c.len 4) place)

  len_back : c.len < 256 ^ 4 → big_endian 0 d (at + 8) 4 ≡ c.len
  unfolding place_of
  len_back l =
      let e : at + 4 + 4 ≡ at + 8 = omega arith in
      rw (← e) (spelled_back 4 d end (at + 4 + 4) _ c.len l (rw (length_bytes_of c.name 4) at (stands_right d end (at + 4) _ (bytes_of c.name 4) (bytes_of c.len 4) place)))

  pub column_back : c.name < 2 ^ 32 → c.len < 2 ^ 32 → column_at d at ≡ c
  unfolding column_at role_at line_at mark_at width_at name_at name_len_at record_of head_of
  column_back l m = rw (← add-zero at, byte 0 (omega arith), add-zero at, byte 1 (omega arith), byte 2 (omega arith), byte 3 (omega arith), name_back l, len_back m)

-- ---- the columns depend on their bytes alone
column_agrees : (d t : List ℕ) (at : ℕ) → ((i : ℕ) → i < at + 16 → get_or d i 0 ≡ get_or t i 0) → column_at d at ≡ column_at t at
unfolding column_at role_at line_at mark_at width_at name_at name_len_at
column_agrees d t at h =
    rw (
      h at (omega arith),
      h (at + 1) (omega arith),
      h (at + 2) (omega arith),
      h (at + 3) (omega arith),
      be_agrees 0 d t (at + 4) 4 (λ i l. h i (omega arith)),
      be_agrees 0 d t (at + 8) 4 (λ i l. h i (omega arith)),
    )

columns_agree : (d t : List ℕ) (at n : ℕ) → ((i : ℕ) → i < at + 16 * n → get_or d i 0 ≡ get_or t i 0) → columns_from d at n ≡ columns_from t at n
unfolding columns_from
columns_agree d t at zero h = refl
columns_agree d t at (suc n) h = rw (column_agrees d t at (λ i l. h i (omega arith)), columns_agree d t (at + 16) n (λ i l. h i (omega arith)))

columns_more : (d : List ℕ) (at n : ℕ) → columns_from d at (n + 1) ≡ columns_from d at n ++ (column_at d (at + 16 * n) ∷ [])
unfolding columns_from
columns_more d at zero = ap (λ (x : ℕ). column_at d x ∷ []) (omega arith)
columns_more d at (suc n) =
    let k : suc n + 1 ≡ suc (n + 1) = omega arith in
    let e : at + 16 + 16 * n ≡ at + 16 * suc n = omega arith in
    ap (λ (x : ℕ). columns_from d at x) k
    ∙ ap (λ (cs : List Column). column_at d at ∷ cs) (columns_more d (at + 16) n ∙ ap (λ (x : ℕ). columns_from d (at + 16) n ++ (column_at d x ∷ [])) e)

length_columns : (d : List ℕ) (at n : ℕ) → length (columns_from d at n) ≡ n
unfolding columns_from
length_columns d at zero = refl
length_columns d at (suc n) = ap suc (length_columns d (at + 16) n)

-- ---- two parts that stand one behind the other
stands_append : (s : List ℕ) (end at m n : ℕ) (v w : List ℕ) → Stands s end at m v → Stands s end m n w → Stands s end at n (v ++ w)
stands_append s end at m n v w g h = record {
  stop = omega (arith, length-append v w, g.stop, h.stop);
  within = h.within;
  inside = h.inside;
  bytes = λ i l. go i l (dec_lt i (length v));
}
  where
    go : (i : ℕ) → i < length (v ++ w) → Dec (i < length v) → get_or s (at + i) 0 ≡ get_or (v ++ w) i 0
    go i l (yes p) = g.bytes i p ∙ sym (get_or-append v w 0 i p)
    go i l (no q) =
        let e : i ≡ length v + (i - length v) = omega arith in
        let f : at + i ≡ m + (i - length v) = omega (arith, g.stop) in
        let k : i - length v < length w = omega (arith, length-append v w) in
        rw f (h.bytes (i - length v) k) ∙ sym (ap (λ (x : ℕ). get_or (v ++ w) x 0) e ∙ get_or-append-add v w (i - length v) 0)

-- ---- one record more
module _ (d d' : List ℕ) (k m : ℕ) (c : Column) (held : Kept d k) (r : Room d (16 * k) (record_of c)) (p : Puts d d' (16 * k) (record_of c) m) (l : c.name < 2 ^ 32) (l' : c.len < 2 ^ 32) where
  size : length d' ≡ length d
  size = puts_same d d' (16 * k) (record_of c) m r p

  before : (i : ℕ) → i < 16 * k → get_or d' i 0 ≡ get_or d i 0
  before i h = rw p.stores (get_d_before d (16 * k) (record_of c) i (omega (arith, r.fits)) h)

  new : Stands d' (length d') (16 * k) m (record_of c)
  new = stands_put d d' (length d') (16 * k) m (record_of c) r p (omega (arith, r.fits, p.next, size)) (omega (arith, size))

  pub holds_more : Holds d' (k + 1) (columns_from d 0 k ++ (c ∷ []))
  unfolding records_of
  holds_more =
      let e : columns_from d' 0 k ≡ columns_from d 0 k = columns_agree d' d 0 k (λ i h. before i (omega arith)) in
      let f : column_at d' (0 + 16 * k) ≡ c = ap (column_at d') (omega arith) ∙ column_back d' (length d') (16 * k) m c new l l' in
      let all : columns_from d' 0 (k + 1) ≡ columns_from d 0 k ++ (c ∷ []) = columns_more d' 0 k ∙ rw (e, f) in
      let old : Stands d' (length d') 0 (16 * k) (records_of (columns_from d 0 k)) = record {
        stop = held.stands.stop;
        within = omega (arith, r.fits, size);
        inside = omega arith;
        bytes = λ i h. before (0 + i) (omega (arith, held.stands.stop)) ∙ held.stands.bytes i h;
      } in
      let n : m ≡ 16 * (k + 1) = omega (arith, p.next, length_record c) in
      record {
        columns = all;
        kept = record {
          stands = rw (all, records_append (columns_from d 0 k) (c ∷ []), append-nil (record_of c), ← n) (stands_append d' (length d') 0 (16 * k) m (records_of (columns_from d 0 k)) (record_of c) old new);
        };
      }

-- nothing is kept yet
pub kept_none : (d : List ℕ) → Kept d 0
unfolding columns_from records_of
kept_none d = record { stands = record { stop = omega arith; within = omega arith; inside = omega arith; bytes = λ i l. absurd (omega arith) } }
