-- Schemas whose columns are equal but for the places of names. Assumes nothing.
use mathlib.Core.Path.{◌≡◌, refl, sym, ap, subst, ◌∙◌}
use mathlib.Core.Bool.{Bool, false}
use mathlib.Core.List.{List, [], ◌∷◌, ◌++◌}
use Prim.Native.Nat.{ℕ, zero, suc, ◌+◌, ◌-◌, ◌*◌, ◌/◌, ◌%◌, ◌≤◌, ◌<◌}
use native.Mathlib.Nat.{add-zero}
use native.Mathlib.Omega.{arith}
use native.Mathlib.Decide.{dec_lt, dec_le}
use borrow.Author.Tests.{le-ltb, ltb-false}
use lib.ListN.{length, get_or, get_or-append}
use lib.Seq.{get_or-append-add}
use Rattle.common.specs.Choose.{pick}
use Rattle.number_fixed.specs.BigEndian.{big_endian, bytes_of}
use Rattle.schema_check.specs.Records.{role_at, line_at, mark_at, width_at, name_at, name_len_at, zeros_at}
use Rattle.schema_column.specs.Columns.{column_at}
use Rattle.schema_column.specs.declared.Column.{Column}
use Rattle.stats_file.specs.Header.{head_of, place_of, tail_of, record_of, records_of}
use Rattle.stats_file.specs.Buffer.{columns_from}
use Rattle.stats_file.proofs.Records.{length_head, length_place, length_record, length_records}
use Rattle.schema_exact.specs.Schemas.{of_place, Alike}
use Rattle.schema_exact.proofs.Records.{Every, each}
use Rattle.schema_exact.proofs.Columns.{Nameless, bare, bares, length_bares, first_same, rest_same}

-- ---- four zero bytes
zeros_each : (v : List ℕ) (at : ℕ) → big_endian 0 v at 4 ≡ 0 → (j : ℕ) → j < 4 → get_or v (at + j) 0 ≡ 0
unfolding big_endian
zeros_each v at e zero l = omega arith
zeros_each v at e (suc zero) l = omega arith
zeros_each v at e (suc (suc zero)) l = omega arith
zeros_each v at e (suc (suc (suc zero))) l = omega arith
zeros_each v at e (suc (suc (suc (suc j)))) l = absurd (omega arith)

zeros_of : (j : ℕ) → get_or (bytes_of 0 4) j 0 ≡ 0
unfolding bytes_of
zeros_of zero = refl
zeros_of (suc zero) = refl
zeros_of (suc (suc zero)) = refl
zeros_of (suc (suc (suc zero))) = refl
zeros_of (suc (suc (suc (suc j)))) = refl

zeros_twice : (j : ℕ) → get_or (bytes_of 0 4 ++ bytes_of 0 4) j 0 ≡ 0
unfolding bytes_of
zeros_twice zero = refl
zeros_twice (suc zero) = refl
zeros_twice (suc (suc zero)) = refl
zeros_twice (suc (suc (suc zero))) = refl
zeros_twice (suc (suc (suc (suc j)))) = zeros_of j

-- ---- one record
behind : (a b : Bool) → pick a false b ≡ false → a ≡ false → b ≡ false
unfolding pick
behind a b e f = rw f at e

module _ (c : Column) (v : List ℕ) (at : ℕ) (e : bare c ≡ bare (column_at v at)) where
  role_same : c.role ≡ role_at v at
  unfolding bare column_at
  role_same = ap (λ (y : Column). y.role) e

  -- the first four bytes
  head_byte : (i : ℕ) → i < 4 → get_or v (at + i) 0 ≡ get_or (record_of c) i 0
  unfolding record_of head_of bare column_at role_at line_at mark_at width_at
  head_byte zero l = ap (λ (x : ℕ). get_or v x 0) (add-zero at) ∙ sym (ap (λ (y : Column). y.role) e)
  head_byte (suc zero) l = sym (ap (λ (y : Column). y.line) e)
  head_byte (suc (suc zero)) l = sym (ap (λ (y : Column). y.reversed) e)
  head_byte (suc (suc (suc zero))) l = sym (ap (λ (y : Column). y.width) e)
  head_byte (suc (suc (suc (suc i)))) l = absurd (omega arith)

  -- the place of no name
  module _ (f : Nameless c) (g : Nameless (column_at v at)) (l : role_at v at < 2) where
    name_zero : big_endian 0 v (at + 4) 4 ≡ 0
    unfolding column_at name_at
    name_zero = g.name l

    len_zero : big_endian 0 v (at + 8) 4 ≡ 0
    unfolding column_at name_len_at
    len_zero = g.len l

    place_zero : (j : ℕ) → get_or (place_of c) j 0 ≡ 0
    unfolding place_of
    place_zero j =
        let m : c.role < 2 = omega (arith, role_same) in
        ap (λ (x : ℕ). get_or (bytes_of x 4 ++ bytes_of c.len 4) j 0) (f.name m) ∙ ap (λ (x : ℕ). get_or (bytes_of 0 4 ++ bytes_of x 4) j 0) (f.len m) ∙ zeros_twice j

    eight : (j : ℕ) → j < 8 → Dec (j < 4) → get_or v (at + (4 + j)) 0 ≡ 0
    eight j m (yes h) = ap (λ (x : ℕ). get_or v x 0) (omega arith) ∙ zeros_each v (at + 4) name_zero j h
    eight j m (no h) =
        let p : at + (4 + j) ≡ at + 8 + (j - 4) = omega arith in
        ap (λ (x : ℕ). get_or v x 0) p ∙ zeros_each v (at + 8) len_zero (j - 4) (omega arith)

    place_byte : (j : ℕ) → j < 8 → get_or v (at + (4 + j)) 0 ≡ get_or (record_of c) (4 + j) 0
    unfolding record_of tail_of
    place_byte j m =
        let p : 4 + j ≡ length (head_of c) + j = omega (arith, length_head c) in
        let b : get_or (head_of c ++ (place_of c ++ bytes_of 0 4)) (4 + j) 0 ≡ 0 =
        ap (λ (x : ℕ). get_or (head_of c ++ (place_of c ++ bytes_of 0 4)) x 0) p
        ∙ get_or-append-add (head_of c) (place_of c ++ bytes_of 0 4) j 0
        ∙ get_or-append (place_of c) (bytes_of 0 4) 0 j (omega (arith, length_place c))
        ∙ place_zero j in
        eight j m (dec_lt j 4) ∙ sym b

  -- the four zeros
  tail_byte : zeros_at v at ≡ 0 → (j : ℕ) → j < 4 → get_or v (at + (12 + j)) 0 ≡ get_or (record_of c) (12 + j) 0
  unfolding record_of tail_of zeros_at
  tail_byte z j l =
      let p : 12 + j ≡ length (head_of c) + (length (place_of c) + j) = omega (arith, length_head c, length_place c) in
      let q : at + (12 + j) ≡ at + 12 + j = omega arith in
      let a : get_or v (at + (12 + j)) 0 ≡ 0 = ap (λ (x : ℕ). get_or v x 0) q ∙ zeros_each v (at + 12) z j l in
      let b : get_or (head_of c ++ (place_of c ++ bytes_of 0 4)) (12 + j) 0 ≡ 0 =
      ap (λ (x : ℕ). get_or (head_of c ++ (place_of c ++ bytes_of 0 4)) x 0) p
      ∙ get_or-append-add (head_of c) (place_of c ++ bytes_of 0 4) (length (place_of c) + j) 0
      ∙ get_or-append-add (place_of c) (bytes_of 0 4) j 0
      ∙ zeros_of j in
      a ∙ sym b

  moved : (i j : ℕ) → j ≡ i → get_or v (at + j) 0 ≡ get_or (record_of c) j 0 → get_or v (at + i) 0 ≡ get_or (record_of c) i 0
  moved i j p h = subst (λ (x : ℕ). get_or v (at + x) 0 ≡ get_or (record_of c) x 0) p h

  module _ (f : Nameless c) (g : Nameless (column_at v at)) (z : zeros_at v at ≡ 0) where
    inner : (i : ℕ) → i < 16 → of_place (role_at v at) i ≡ false → Dec (i < 4) → Dec (12 ≤ i) → Dec (role_at v at < 2) → get_or v (at + i) 0 ≡ get_or (record_of c) i 0
    inner i l o (yes a) b d = head_byte i a
    inner i l o (no a) (yes b) d = moved i (12 + (i - 12)) (omega arith) (tail_byte z (i - 12) (omega arith))
    inner i l o (no a) (no b) (yes d) = moved i (4 + (i - 4)) (omega arith) (place_byte f g d (i - 4) (omega arith))
    inner i l o (no a) (no b) (no d) =
        let p = behind _ _ o (le-ltb (role_at v at) _ (omega arith)) in
        absurd (omega (arith, ltb-false i _ (behind _ _ p (le-ltb i _ (omega arith)))))

    record_byte : (i : ℕ) → i < 16 → of_place (role_at v at) i ≡ false → get_or v (at + i) 0 ≡ get_or (record_of c) i 0
    record_byte i l o = inner i l o (dec_lt i 4) (dec_le 12 i) (dec_lt (role_at v at) 2)

-- ---- the records
abbrev spared : List ℕ → ℕ → ℕ → Bool
spared v at i = of_place (role_at v (at + 16 * (i / 16))) (i % 16)

module _ (c : Column) (cs : List Column) (v : List ℕ) (at k : ℕ) (e : bare c ≡ bare (column_at v at)) (a : Nameless c) (b : Nameless (column_at v at)) (z : zeros_at v at ≡ 0)
    (rest : (j : ℕ) → j < 16 * k → spared v (at + 16) j ≡ false → get_or v (at + 16 + j) 0 ≡ get_or (records_of cs) j 0) where
  first_or_later : (i : ℕ) → i < 16 * suc k → spared v at i ≡ false → Dec (i < 16) → get_or v (at + i) 0 ≡ get_or (record_of c ++ records_of cs) i 0
  first_or_later i l f (yes h) =
      let p : at ≡ at + 16 * (i / 16) = omega arith in
      let r : i ≡ i % 16 = omega arith in
      record_byte c v at e a b z i h (ap (λ (x : ℕ). of_place (role_at v x) i) p ∙ ap (of_place (role_at v (at + 16 * (i / 16)))) r ∙ f) ∙ sym (get_or-append (record_of c) (records_of cs) 0 i (omega (arith, length_record c)))
  first_or_later i l f (no h) =
      let p : (i - 16) % 16 ≡ i % 16 = omega arith in
      let q : at + i ≡ at + 16 + (i - 16) = omega arith in
      let o : at + 16 + 16 * ((i - 16) / 16) ≡ at + 16 * (i / 16) = omega arith in
      let n : i ≡ length (record_of c) + (i - 16) = omega (arith, length_record c) in
      ap (λ (x : ℕ). get_or v x 0) q
      ∙ rest (i - 16) (omega arith) (ap (λ (x : ℕ). of_place (role_at v x) ((i - 16) % 16)) o ∙ ap (of_place (role_at v (at + 16 * (i / 16)))) p ∙ f)
      ∙ sym (ap (λ (x : ℕ). get_or (record_of c ++ records_of cs) x 0) n ∙ get_or-append-add (record_of c) (records_of cs) (i - 16) 0)

records_byte : (cs : List Column) (v : List ℕ) (at k : ℕ) → bares cs ≡ bares (columns_from v at k) → Every Nameless cs → Every Nameless (columns_from v at k)
    → ((q : ℕ) → q < k → zeros_at v (at + 16 * q) ≡ 0) → (i : ℕ) → i < 16 * k → spared v at i ≡ false → get_or v (at + i) 0 ≡ get_or (records_of cs) i 0
unfolding bares columns_from records_of
records_byte cs v at zero e a b z i l f = absurd (omega arith)
records_byte [] v at (suc k) e a b z i l f = let w : ◌≡◌ {A = ℕ} 0 1 = cc in absurd (omega arith)
records_byte (c ∷ cs) v at (suc k) e (each a p) (each b q) z i l f =
    first_or_later c cs v at k (first_same e) a b (ap (zeros_at v) (omega arith) ∙ z 0 (omega arith))
    (records_byte cs v (at + 16) k (rest_same e) p q (λ j m. ap (zeros_at v) (omega arith) ∙ z (suc j) (omega arith)))
    i l f (dec_lt i 16)

pub length_from : (v : List ℕ) (at k : ℕ) → length (columns_from v at k) ≡ k
unfolding columns_from
length_from v at zero = refl
length_from v at (suc k) = ap suc (length_from v (at + 16) k)

pub alike : (cs : List Column) (v : List ℕ) (k : ℕ) → length v ≡ 16 * k → bares cs ≡ bares (columns_from v 0 k) → Every Nameless cs → Every Nameless (columns_from v 0 k)
    → ((q : ℕ) → q < k → zeros_at v (0 + 16 * q) ≡ 0) → Alike v (records_of cs)
alike cs v k l e a b z =
    let n : length cs ≡ k = sym (length_bares cs) ∙ ap length e ∙ length_bares (columns_from v 0 k) ∙ length_from v 0 k in
    record {
      lengths = omega (arith, length_records cs);
      bytes = λ i h f.
          let p : 0 + 16 * (i / 16) ≡ 16 * (i / 16) = omega arith in
          ap (λ (x : ℕ). get_or v x 0) (omega arith) ∙ records_byte cs v 0 k e a b z i (omega arith) (ap (λ (x : ℕ). of_place (role_at v x) (i % 16)) p ∙ f);
    }
