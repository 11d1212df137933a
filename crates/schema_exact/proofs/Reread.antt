-- The Statistics that is made for a schema is read back. Assumes nothing.
use mathlib.Core.Path.{◌≡◌, refl, sym, ap, ◌∙◌}
use mathlib.Core.Bool.{Bool, true, false}
use mathlib.Core.List.{List, [], ◌∷◌, ◌++◌, append_assoc, append-nil}
use Prim.Native.Nat.{ℕ, zero, suc, ◌+◌, ◌-◌, ◌^◌, ◌≤◌, ◌<◌}
use native.Mathlib.Omega.{arith}
use borrow.Author.Tests.{lt-ltb, le-ltb, ltb-true, ltb-false}
use lib.Dec.{ltb}
use lib.ListN.{length, length-take, length-drop}
use Rattle.common.specs.Choose.{pick, bind}
use Rattle.common.specs.Got.{Got}
use Rattle.common.specs.Store.{part, shown}
use Rattle.number_varint.specs.Varints.{shortest}
use Rattle.common.proofs.Choose.{pick_yes, pick_no, pick_ind}
use Rattle.common.proofs.RoundTrip.{Reads, reads_got, reads_on, reads_at, reads_yes, reads_no, reads_to}
use Rattle.common.proofs.Stands.{Stands, stands_left, stands_right}
use Rattle.number_varint.proofs.Varints.{varint_back}
use Rattle.type_table.specs.Table.{line_of}
use Rattle.text.proofs.Texts.{same_lengths}
use Rattle.type_spelling.proofs.Spelled.{type_bytes, type_back}
use Rattle.schema_check.specs.Records.{most_of}
use Rattle.schema_column.specs.declared.Column.{Column}
use Rattle.stats_file.specs.Bases.{timestamp_at, local_of, local_at, ttl_at, bases_at}
use Rattle.stats_file.specs.Header.{column, count_at, is_named, name_at, typed_at, named_at, column_at, columns_at, Group, group_at, groups_at, header_at}
use Rattle.schema_exact.specs.Canonical.{letters, letters_of, kind_of, column_bytes, columns_bytes, group_bytes, bases_bytes, groups_bytes, header_bytes}
use Rattle.schema_exact.proofs.Records.{Every, empty, each, every_append, every_map}
use Rattle.schema_exact.proofs.Columns.{bare_of, bare, bares, bares_append, Kinded, Short}

pub reads_holds : {A : Type 0} {P Q : A → Type 0} {x : Got A} {n : ℕ} → ((a : A) → P a → Q a) → Reads x n P → Reads x n Q
reads_holds f h = record { value = h.value; is = h.is; holds = f h.value h.holds }

pub reads_bind : {A B : Type 0} {P : B → Type 0} {n : ℕ} (a : A) (k : A → Got B) → Reads (k a) n P → Reads (bind a k) n P
unfolding bind
reads_bind a k h = h

-- ---- names
length_letters : (n : ℕ) → length (letters n) ≡ n
unfolding letters
length_letters zero = refl
length_letters (suc n) = ap suc (length_letters n)

shown_most : (s : List ℕ) (start len : ℕ) → length (shown s start len) ≤ len
unfolding shown part
shown_most s start len =
    pick_ind (λ (w : List ℕ). length w ≤ len) _ _ _ (λ e. omega arith) (λ e.
    pick_ind (λ (w : List ℕ). length w ≤ len) _ _ _ (λ f. omega arith) (λ f.
    simp (length-take, length-drop) (omega arith)))

shown_inside : (s : List ℕ) (start len : ℕ) → start + len ≤ length s → length (shown s start len) ≡ len
unfolding shown part
shown_inside s start len h =
    pick_ind (λ (w : List ℕ). length w ≡ len) _ _ _ (λ e. absurd (omega (arith, ltb-true (length s) start e))) (λ e.
    pick_ind (λ (w : List ℕ). length w ≡ len) _ _ _ (λ f. absurd (omega (arith, ltb-true (length s - start) len f))) (λ f.
    simp (length-take, length-drop) (omega arith)))

-- a longer name is none of theirs
unnamed : (s w : List ℕ) (cs : List Column) → Every (Short (length w)) cs → is_named s w cs ≡ false
unfolding is_named
unnamed s w [] empty = refl
unnamed s w (c ∷ cs) (each h e) =
    pick_ind (λ (b : Bool). b ≡ false) _ _ (ltb c.role 2) (λ f. unnamed s w cs e) (λ f.
    sym (pick_no _ _ _ _ (sym (same_lengths (shown s c.name c.len) w (λ z. omega (arith, h.len, shown_most s c.name c.len)))) (sym (unnamed s w cs e))))

module _ (s : List ℕ) (stop : ℕ) where
  name_back : (i : ℕ) (cs : List Column) (at n : ℕ) → i < 2 ^ 64 → Every (Short i) cs → Stands s stop at n (shortest i ++ letters i) → Reads (name_at cs s at stop) n (λ name. name.len ≡ i)
  unfolding name_at
  name_back i cs at n l e h =
      let m = at + length (shortest i) in
      let right : Stands s stop m n (letters i) = stands_right s stop at n (shortest i) (letters i) h in
      let k = length_letters i in
      let p : m + i ≡ n = omega (arith, right.stop) in
      let f : length (shown s m i) ≡ i = shown_inside s m i (omega (arith, right.within, right.inside)) in
      reads_at _ (varint_back s stop at m i l (stands_left s stop at n (shortest i) (letters i) h))
      (reads_no _ _ (le-ltb (stop - m) i (omega (arith, right.within)))
      (reads_no _ _ (unnamed s (shown s m i) cs (rw f e))
      (reads_to p (reads_got _ _ refl))))

  -- ---- one column
  -- c is d but for the place of its name, which has at most i bytes
  record Back (i : ℕ) (d c : Column) : Type 0 where
    same : bare c ≡ bare d
    len : c.len ≤ i

  bare_same : (role : ℕ) (d : Column) (name len : ℕ) → Kinded role d → bare (column role (kind_of d) name len) ≡ bare d
  unfolding bare
  bare_same role d name len k =
      ap (λ (r : ℕ). bare_of r d.line d.reversed (line_of d.line).width) (sym k.is) ∙ ap (bare_of d.role d.line d.reversed) (sym k.width)

  typed_bytes : (i : ℕ) (d : Column) → d.role < 2 → column_bytes i d ≡ type_bytes (kind_of d)
  unfolding column_bytes
  typed_bytes i d h = sym (pick_yes _ _ _ _ (lt-ltb d.role _ (omega arith)) refl)

  named_bytes : (i : ℕ) (d : Column) → 2 ≤ d.role → column_bytes i d ≡ (shortest (letters_of i) ++ letters (letters_of i)) ++ type_bytes (kind_of d)
  unfolding column_bytes
  named_bytes i d h = sym (pick_no _ _ _ _ (le-ltb d.role _ (omega arith)) (append_assoc (shortest (letters_of i)) (letters (letters_of i)) (type_bytes (kind_of d))))

  module _ (role i : ℕ) (cs : List Column) (d : Column) (l : i < 2 ^ 64) (k : Kinded role d) (e : Every (Short i) cs) (at n : ℕ) (h : Stands s stop at n (column_bytes i d)) where
    typed_back : role < 2 → Reads (typed_at role s at stop) n (Back i d)
    unfolding typed_at
    typed_back m =
        let g : Stands s stop at n (type_bytes (kind_of d)) = rw (typed_bytes i d (omega (arith, k.is))) at h in
        reads_at _ (type_back false (kind_of d) k.typed s stop at n g) (reads_got _ n (record { same = bare_same role d 0 0 k; len = omega arith }))

    named_back : 2 ≤ role → Reads (named_at role cs s at stop) n (Back i d)
    unfolding named_at
    named_back m =
        let w = shortest (letters_of i) ++ letters (letters_of i) in
        let shorter : Every (Short (letters_of i)) cs = every_map (λ x o. record { len = omega (arith, o.len) }) e in
        let g : Stands s stop at n (w ++ type_bytes (kind_of d)) = rw (named_bytes i d (omega (arith, k.is))) at h in
        reads_on _ (name_back (letters_of i) cs at _ (omega arith) shorter (stands_left s stop at n w (type_bytes (kind_of d)) g)) (λ name q.
        reads_at _ (type_back true (kind_of d) (k.named m) s stop _ n (stands_right s stop at n w (type_bytes (kind_of d)) g))
        (reads_got _ n (record { same = bare_same role d name.start name.len k; len = omega arith })))

    column_back : Reads (column_at role cs s at stop) n (Back i d)
    unfolding column_at
    column_back = go (ltb role 2) refl
      where
        go : (b : Bool) → ltb role 2 ≡ b → Reads (pick (ltb role 2) (typed_at role s at stop) (named_at role cs s at stop)) n (Back i d)
        go true f = reads_yes _ _ f (typed_back (ltb-true role 2 f))
        go false f = reads_no _ _ f (named_back (ltb-false role 2 f))

  -- ---- columns
  -- es are cs and then ds, but for the places of names, which have fewer than i bytes
  pub record Backs (i : ℕ) (cs ds es : List Column) : Type 0 where
    pub same : bares es ≡ bares cs ++ bares ds
    pub short : Every (Short i) es

  pub columns_back : (role : ℕ) (ds : List Column) (i : ℕ) (cs : List Column) (at n : ℕ) → i + length ds ≤ 200 → Every (Kinded role) ds → Every (Short i) cs → Stands s stop at n (columns_bytes i ds)
      → Reads (columns_at (length ds) role cs s at stop) n (Backs (i + length ds) cs ds)
  unfolding columns_at columns_bytes bares
  columns_back role [] i cs at n l empty e h =
      let p : at ≡ n = omega (arith, h.stop) in
      let q : i + 0 ≡ i = omega arith in
      reads_to p (reads_got cs at (record { same = sym (append-nil (bares cs)); short = rw q e }))
  columns_back role (d ∷ ds) i cs at n l (each k g) e h =
      let left = stands_left s stop at n (column_bytes i d) (columns_bytes (suc i) ds) h in
      let right = stands_right s stop at n (column_bytes i d) (columns_bytes (suc i) ds) h in
      let q : i + suc (length ds) ≡ suc i + length ds = omega arith in
      rw q (reads_on _ (column_back role i cs d (omega arith) k e at _ left) (λ c b.
      reads_holds (λ es f. record { same = f.same ∙ rw (bares_append cs (c ∷ []), append_assoc (bares cs) (bare c ∷ []) (bares ds), b.same) refl; short = f.short })
      (columns_back role ds (suc i) (cs ++ (c ∷ [])) _ n (omega arith) g
      (every_append (every_map (λ x o. record { len = omega (arith, o.len) }) e) (each (record { len = omega (arith, b.len) }) empty)) right)))

  record Grouped (i : ℕ) (cs ds : List Column) (g : Group) : Type 0 where
    columns : Backs i cs ds g.columns

  group_back : (role : ℕ) (ds : List Column) (i : ℕ) (cs : List Column) (at n : ℕ) → length ds ≤ most_of role → i + length ds ≤ 200 → Every (Kinded role) ds → Every (Short i) cs → Stands s stop at n (group_bytes i ds)
      → Reads (group_at role cs s at stop) n (Grouped (i + length ds) cs ds)
  unfolding group_at count_at group_bytes
  group_back role ds i cs at n m l k e h =
      let left = stands_left s stop at n (shortest (length ds)) (columns_bytes i ds) h in
      let right = stands_right s stop at n (shortest (length ds)) (columns_bytes i ds) h in
      reads_at _ (reads_at _ (varint_back s stop at _ (length ds) (omega arith) left) (reads_bind _ _ (reads_no _ _ (le-ltb (most_of role) (length ds) m) (reads_got _ _ refl))))
      (reads_on _ (columns_back role ds i cs _ n l k e right) (λ es f. reads_got _ n (record { columns = f })))

  -- ---- the header
  local_small : ltb 2147483647 (local_of 0) ≡ false
  unfolding local_of
  local_small = refl

  bases_back : (at n : ℕ) → Stands s stop at n bases_bytes → Reads (bases_at s at stop) n (λ b. Unit)
  unfolding bases_at timestamp_at local_at ttl_at bases_bytes
  bases_back at n h =
      let v = shortest 0 in
      let h1 = stands_right s stop at n v (v ++ v) h in
      reads_at _ (reads_at _ (varint_back s stop at _ 0 (omega arith) (stands_left s stop at n v (v ++ v) h)) (reads_got _ _ refl))
      (reads_at _ (reads_at _ (varint_back s stop _ _ 0 (omega arith) (stands_left s stop _ n v v h1)) (reads_bind _ _ (reads_no _ _ local_small (reads_got _ _ refl))))
      (reads_at _ (reads_at _ (varint_back s stop _ _ 0 (omega arith) (stands_right s stop _ n v v h1)) (reads_no _ _ refl (reads_got _ _ refl)))
      (reads_got _ n tt)))

module _ (s : List ℕ) (stop : ℕ) (key : Column) (ks ms rs : List Column) (keyed : Kinded 0 key) (ks_are : Every (Kinded 1) ks) (ms_are : Every (Kinded 2) ms) (rs_are : Every (Kinded 3) rs)
    (ks_few : length ks ≤ 32) (ms_few : length ms ≤ 63) (rs_few : length rs ≤ 63) where
  groups_back : (cs : List Column) (at n : ℕ) → bares cs ≡ bare key ∷ [] → Every (Short 1) cs → Stands s stop at n (groups_bytes ks ms rs)
      → Reads (groups_at cs s at stop) n (λ g. bares g.columns ≡ bares (key ∷ (ks ++ (ms ++ rs))))
  unfolding groups_at groups_bytes most_of pick bares
  groups_back cs at n b e h =
      let i = 1 + length ks in
      let j = 1 + length ks + length ms in
      let v = group_bytes 1 ks in
      let w = group_bytes i ms in
      let h1 = stands_right s stop at n v (w ++ group_bytes j rs) h in
      reads_on _ (group_back s stop 1 ks 1 cs at _ ks_few (omega arith) ks_are e (stands_left s stop at n v (w ++ group_bytes j rs) h)) (λ k p.
      reads_on _ (group_back s stop 2 ms i k.columns _ _ ms_few (omega arith) ms_are p.columns.short (stands_left s stop _ n w (group_bytes j rs) h1)) (λ m q.
      reads_on _ (group_back s stop 3 rs j m.columns _ n rs_few (omega arith) rs_are q.columns.short (stands_right s stop _ n w (group_bytes j rs) h1)) (λ r o.
      reads_got _ n (o.columns.same ∙ rw (q.columns.same, p.columns.same, b, bares_append, bares_append, append_assoc) refl))))

  pub header_back : (at : ℕ) → Stands s stop at stop (header_bytes key ks ms rs) → Reads (header_at s at stop) stop (λ h. bares h.columns ≡ bares (key ∷ (ks ++ (ms ++ rs))))
  unfolding header_at header_bytes bares
  header_back at h =
      let w = columns_bytes 0 (key ∷ []) in
      let h1 = stands_right s stop at stop bases_bytes (w ++ groups_bytes ks ms rs) h in
      reads_on _ (bases_back s stop at _ (stands_left s stop at stop bases_bytes (w ++ groups_bytes ks ms rs) h)) (λ b u.
      reads_on _ (columns_back s stop 0 (key ∷ []) 0 [] _ _ (omega arith) (each keyed empty) empty (stands_left s stop _ stop w (groups_bytes ks ms rs) h1)) (λ cs p.
      reads_on _ (groups_back cs _ stop p.same p.short (stands_right s stop _ stop w (groups_bytes ks ms rs) h1)) (λ g q.
      reads_no _ _ (le-ltb stop stop (omega arith)) (reads_got _ stop q))))
