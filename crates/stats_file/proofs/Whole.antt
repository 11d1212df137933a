-- The two entries, the file, and the buffer that the caller lends. Assumes nothing.
use Rattle.std.proofs.Common.{◌≡◌, ℕ, ◌+◌, ◌*◌, ◌<◌, ◌≤◌, true, false, ltb, List, length, sym, refl, ap, ◌∙◌, arith, le-ltb, lt-ltb, Result, Ok, Err}
use Rattle.common.specs.Got.{Got, got, bad, on, Reading, said, within}
use Rattle.common.specs.Refusals.{taken, refused, refusal_at, outcome}
use Rattle.common.specs.Store.{Room, Puts, part, splice}
use Rattle.common.specs.declared.reading.Bad.{Bad}
use Rattle.common.specs.declared.refusal.Fault.TheVariants.{OverLimit, NoRoom}
use Rattle.common.specs.declared.refusal.Refusal.{Refusal}
use Rattle.common.specs.declared.refusal.Slice.TheVariants.{Statistics, Output}
use Rattle.common.specs.declared.times.Bases.{Bases}
use Rattle.common.proofs.Choose.{pick_yes, pick_no}
use Rattle.common.proofs.Gives.{never, got_value, got_place, gives_got, gives_is}
use Rattle.common.proofs.Said.{said_got, said_not}
use Rattle.common.proofs.RoundTrip.{Reads as IsRead, reads_on, reads_got, reads_then, bad_on}
use Rattle.common.proofs.Stands.{stands_part}
use Rattle.stats_contents.specs.Contents.{contents_at, end_of}
use Rattle.stats_validation.specs.Validation.{validation_at}
use Rattle.stats_contents.specs.declared.contents.Contents.{Contents}
use Rattle.stats_validation.specs.declared.Validation.{Validation}
use Rattle.stats_file.specs.Header.{Header, header_at, records_of}
use Rattle.stats_file.specs.Buffer.{columns_from, Holds, head_in, column_count, FillsHeader}
use Rattle.stats_file.specs.Statistics.{File, entry0_at, entry3_at, forward_at, backward_at, entries_at, file_at, table_of, answered, filled_in, statistics_of, schema_in, table_in, FillsFile, Reads}
use Rattle.stats_file.specs.declared.columns.Sizes.{Sizes}
use Rattle.stats_file.specs.declared.header.Head.{Head}
use Rattle.stats_file.specs.declared.Table.{Table}

-- ---- one entry
pub entry0_is : (s : List ℕ) (c : Contents) (e : ℕ) (r : Reading Validation) → e ≡ end_of c.validation c (length s) → said r ≡ validation_at s c.validation e → said r ≡ entry0_at s c
unfolding entry0_at
entry0_is s c e r f g = g ∙ rw f refl

pub entry3_is : (s : List ℕ) (c : Contents) (e : ℕ) (d d' : List ℕ) (r : Reading Head) → e ≡ end_of c.header c (length s) → FillsHeader (header_at s c.header e) d d' r → FillsHeader (entry3_at s c) d d' r
unfolding entry3_at
entry3_is s c e d d' r f g = rw f at g

-- ---- what the answers tell
entry_read : (x : Got Validation) (r : Reading Validation) (v : Validation) (n : ℕ) → said r ≡ x → r ≡ Ok (v, n) → IsRead x n (λ y. y ≡ v)
entry_read x r v n e f = record { value = v; is = said_got r x v n e f; holds = refl }

header_read : (x : Got Header) (d d' : List ℕ) (r : Reading Head) (y : Head) (n : ℕ) → FillsHeader x d d' r → r ≡ Ok (y, n)
    → IsRead x n (λ h. (h.bases ≡ y.bases) × (h.sizes ≡ y.sizes) × Holds d' (column_count y.sizes) h.columns)
unfolding said head_in
header_read x d d' r y n h e = go x h.answer h.holds
  where
    go : (z : Got Header) → said r ≡ head_in z → ((k : Header) (m : ℕ) → z ≡ got k m → Holds d' (column_count k.sizes) k.columns)
        → IsRead z n (λ h. (h.bases ≡ y.bases) × (h.sizes ≡ y.sizes) × Holds d' (column_count y.sizes) h.columns)
    go (got k m) i j =
        let o : got y n ≡ got (record { bases = k.bases; sizes = k.sizes }) m = rw e at i in
        let w : y ≡ record { bases = k.bases; sizes = k.sizes } = got_value o in
        record { value = k; is = ap (got k) (sym (got_place o)); holds = (ap (λ (u : Head). u.bases) (sym w), ap (λ (u : Head). u.sizes) (sym w), rw w (j k m refl)) }
    go (bad f p) i j =
        let o : got y n ≡ bad f p = rw e at i in
        never (sym o)

header_refused : (x : Got Header) (d d' : List ℕ) (r : Reading Head) (y : Bad) → FillsHeader x d d' r → r ≡ Err y → x ≡ bad y.fault y.place
unfolding said head_in
header_refused x d d' r y h e = go x h.answer
  where
    go : (z : Got Header) → said r ≡ head_in z → z ≡ bad y.fault y.place
    go (got k m) i =
        let o : bad y.fault y.place ≡ got (record { bases = k.bases; sizes = k.sizes }) m = rw e at i in
        never o
    go (bad f p) i =
        let o : bad y.fault y.place ≡ bad f p = rw e at i in
        cc

refused_file : (x : Got File) (d d' : List ℕ) (y : Bad) → length d' ≡ length d → x ≡ bad y.fault y.place → FillsFile x d d' (Err y)
unfolding said table_in
refused_file x d d' y l e = record { answer = rw e refl; same = l; holds = λ f n i. never (sym e ∙ i) }

taken_file : (x : Got File) (d d' : List ℕ) (t : Table) (n : ℕ) → length d' ≡ length d → IsRead x n (λ f. (table_of f ≡ t) × Holds d' (column_count f.header.sizes) f.header.columns)
    → FillsFile x d d' (Ok (t, n))
unfolding said table_in
taken_file x d d' t n l r = record {
  answer = rw r.is (ap (λ u. got u n) (sym r.holds.0));
  same = l;
  holds = λ y m i. gives_is {P = λ z k. Holds d' (column_count z.header.sizes) z.header.columns} (gives_got r.value n r.holds.1) (sym r.is ∙ i);
}

abbrev table_from : Bases → Validation → Sizes → Table
table_from b v z = record { bases = b; validation = v; sizes = z }

-- ---- both entries
module _ (s : List ℕ) (c : Contents) (d d' : List ℕ) (r₀ : Reading Validation) (h₀ : said r₀ ≡ entry0_at s c) where
  pub forward_bad₀ : (y : Bad) → r₀ ≡ Err y → FillsFile (forward_at s c) d d (Err y)
  unfolding forward_at
  forward_bad₀ y e = refused_file _ d d y refl (bad_on _ (said_not r₀ _ y h₀ e))

  module _ (r₁ : Reading Head) (h₁ : FillsHeader (entry3_at s c) d d' r₁) where
    pub forward_bad₁ : (v : Validation) (n : ℕ) (y : Bad) → r₀ ≡ Ok (v, n) → r₁ ≡ Err y → FillsFile (forward_at s c) d d' (Err y)
    unfolding forward_at
    forward_bad₁ v n y e g = refused_file _ d d' y h₁.same (reads_then _ (entry_read _ r₀ v n h₀ e) (λ x i. bad_on _ (header_refused _ d d' r₁ y h₁ g)))

    pub forward_all : (v : Validation) (n : ℕ) (y : Head) (m : ℕ) → r₀ ≡ Ok (v, n) → r₁ ≡ Ok (y, m) → FillsFile (forward_at s c) d d' (Ok (table_from y.bases v y.sizes, m))
    unfolding forward_at
    forward_all v n y m e g =
        taken_file _ d d' _ m h₁.same
        (reads_on _ (entry_read _ r₀ v n h₀ e) (λ x i. reads_on _ (header_read _ d d' r₁ y m h₁ g) (λ k j. reads_got _ m (rw (i, j.0, j.1) refl, rw j.1 j.2))))

    pub backward_bad₀ : (y : Head) (m : ℕ) (z : Bad) → r₁ ≡ Ok (y, m) → r₀ ≡ Err z → FillsFile (backward_at s c) d d' (Err z)
    unfolding backward_at
    backward_bad₀ y m z g e = refused_file _ d d' z h₁.same (reads_then _ (header_read _ d d' r₁ y m h₁ g) (λ k j. bad_on _ (said_not r₀ _ z h₀ e)))

    pub backward_all : (v : Validation) (n : ℕ) (y : Head) (m : ℕ) → r₁ ≡ Ok (y, m) → r₀ ≡ Ok (v, n) → FillsFile (backward_at s c) d d' (Ok (table_from y.bases v y.sizes, n))
    unfolding backward_at
    backward_all v n y m g e =
        taken_file _ d d' _ n h₁.same
        (reads_on _ (header_read _ d d' r₁ y m h₁ g) (λ k j. reads_on _ (entry_read _ r₀ v n h₀ e) (λ x i. reads_got _ n (rw (i, j.0, j.1) refl, rw j.1 j.2))))

pub backward_only : (s : List ℕ) (c : Contents) (d d' : List ℕ) (r₁ : Reading Head) (y : Bad) → FillsHeader (entry3_at s c) d d' r₁ → r₁ ≡ Err y → FillsFile (backward_at s c) d d' (Err y)
unfolding backward_at
backward_only s c d d' r₁ y h₁ g = refused_file _ d d' y h₁.same (bad_on _ (header_refused _ d d' r₁ y h₁ g))

pub ruleset both = (forward_bad₀, forward_bad₁, forward_all, backward_bad₀, backward_all, backward_only)

-- ---- the file
module _ (s d d' : List ℕ) (r : Reading Contents) (h : said r ≡ contents_at s 0 (length s)) where
  pub file_bad : (y : Bad) → r ≡ Err y → FillsFile (file_at s) d d (Err y)
  unfolding file_at
  file_bad y e = refused_file _ d d y refl (bad_on _ (said_not r _ y h e))

  module _ (c : Contents) (n : ℕ) (e : r ≡ Ok (c, n)) (q : Reading Table) where
    opened : file_at s ≡ entries_at s c
    unfolding file_at on
    opened = rw (said_got r _ c n h e) refl

    pub file_forward : c.validation < c.header → FillsFile (forward_at s c) d d' q → FillsFile (file_at s) d d' q
    unfolding entries_at
    file_forward l g = rw (opened ∙ sym (pick_yes _ _ _ _ (lt-ltb _ _ l) refl)) g

    pub file_backward : c.header ≤ c.validation → FillsFile (backward_at s c) d d' q → FillsFile (file_at s) d d' q
    unfolding entries_at
    file_backward l g = rw (opened ∙ sym (pick_no _ _ _ _ (le-ltb _ _ l) refl)) g

pub ruleset files = (file_bad, file_forward, file_backward)

-- ---- what the answer tells of the file
file_place : Got File → ℕ
file_place (got f n) = n
file_place (bad f p) = p

-- the file is refused, and the buffer is as it was
file_refused : (x : Got File) (d : List ℕ) (y : Refusal) → outcome (Err y) ≡ within Statistics (table_in x) → (outcome (Err y) ≡ answered x (length d)) × (d ≡ filled_in x d)
unfolding outcome within table_in answered filled_in
file_refused (got k m) d y e = absurd cc
file_refused (bad f p) d y e = (e, refl)

-- the file is read
file_read : (x : Got File) (d d' : List ℕ) (r : Reading Table) (t : Table) → FillsFile x d d' r → outcome (Ok t) ≡ within Statistics (table_in x)
    → IsRead x (file_place x) (λ f. (table_of f ≡ t) × Holds d' (column_count t.sizes) f.header.columns)
unfolding outcome within table_in file_place
file_read x d d' r t h e = go x e h.holds
  where
    go : (z : Got File) → outcome (Ok t) ≡ within Statistics (table_in z) → ((f : File) (n : ℕ) → z ≡ got f n → Holds d' (column_count f.header.sizes) f.header.columns)
        → IsRead z (file_place z) (λ f. (table_of f ≡ t) × Holds d' (column_count t.sizes) f.header.columns)
    go (got k m) i j =
        let w : t ≡ table_of k = cc in
        record { value = k; is = refl; holds = (sym w, rw w (j k m refl)) }
    go (bad f p) i j = absurd cc

-- ---- the caller's buffer
pub read_over : (s d : List ℕ) (y : Refusal) → y ≡ refusal_at OverLimit Statistics 0 → 1073741824 < length s → Reads s d d (Err y)
unfolding outcome statistics_of schema_in
read_over s d y e h = record { answer = rw e (pick_yes _ _ _ _ (lt-ltb _ _ h) refl); buffer = pick_yes _ _ _ _ (lt-ltb _ _ h) refl }

module _ (s d : List ℕ) (l : length s ≤ 1073741824) where
  pub read_long : (y : Refusal) → y ≡ refusal_at OverLimit Output 0 → 1073741824 < length d → Reads s d d (Err y)
  unfolding outcome statistics_of schema_in
  read_long y e h = record {
    answer = rw e (pick_no _ _ _ _ (le-ltb _ _ l) (pick_yes _ _ _ _ (lt-ltb _ _ h) refl));
    buffer = pick_no _ _ _ _ (le-ltb _ _ l) (pick_yes _ _ _ _ (lt-ltb _ _ h) refl);
  }

  module _ (m : length d ≤ 1073741824) where
    onto : (d' : List ℕ) (r : Result Table Refusal) → outcome r ≡ answered (file_at s) (length d) → d' ≡ filled_in (file_at s) d → Reads s d d' r
    unfolding statistics_of schema_in
    onto d' r e f = record {
      answer = pick_no _ _ _ _ (le-ltb _ _ l) (pick_no _ _ _ _ (le-ltb _ _ m) e);
      buffer = pick_no _ _ _ _ (le-ltb _ _ l) (pick_no _ _ _ _ (le-ltb _ _ m) f);
    }

    module _ (z z' : List ℕ) (q : Reading Table) (h : FillsFile (file_at s) z z' q) (w : Result Table Refusal) (o : outcome w ≡ within Statistics (said q)) where
      told : outcome w ≡ within Statistics (table_in (file_at s))
      told = o ∙ ap (within Statistics) h.answer

      pub read_bad : (y : Refusal) → w ≡ Err y → Reads s d d (Err y)
      read_bad y e =
          let k = file_refused (file_at s) d y (rw e at told) in
          onto d _ k.0 k.1

      module _ (t : Table) (e : w ≡ Ok t) where
        whole : IsRead (file_at s) (file_place (file_at s)) (λ f. (table_of f ≡ t) × Holds z' (column_count t.sizes) f.header.columns)
        whole = file_read (file_at s) z z' q t h (rw e at told)

        size : length (records_of whole.value.header.columns) ≡ 16 * column_count t.sizes
        size = rw (← whole.holds.1.columns) (omega (arith, whole.holds.1.kept.stands.stop))

        pub read_columns : length z ≡ 2544 → 16 * column_count t.sizes ≤ 2544
        read_columns k = omega (arith, whole.holds.1.kept.stands.within, h.same)

        records : part z' 0 (16 * column_count t.sizes) ≡ records_of whole.value.header.columns
        records =
            let st = whole.holds.1.kept.stands in
            let len : length (records_of (columns_from z' 0 (column_count t.sizes))) ≡ 16 * column_count t.sizes = omega (arith, st.stop) in
            ap (λ (k : ℕ). part z' 0 k) (sym len) ∙ stands_part z' (length z') 0 _ _ st ∙ ap records_of whole.holds.1.columns

        module _ (n : ℕ) (f : n ≡ 16 * column_count t.sizes) where
          pub read_short : (y : Refusal) → y ≡ refusal_at NoRoom Output n → length d < n → Reads s d d (Err y)
          unfolding outcome answered filled_in
          read_short y g k =
              let w : ltb (length d) (length (records_of whole.value.header.columns)) ≡ true = lt-ltb (length d) (length (records_of whole.value.header.columns)) (omega (arith, size)) in
              onto d _
              (rw (g, whole.is) (pick_yes _ _ _ _ w (ap (refused NoRoom Output) (omega (arith, size)))))
              (rw whole.is (pick_yes _ _ _ _ w refl))

          pub read_part : length z ≡ 2544 → 0 + n ≤ length z'
          read_part k = omega (arith, read_columns k, h.same)

          pub read_room : n ≤ length d → Room d 0 (part z' 0 n)
          read_room k = record { fits = rw f (omega (arith, ap length records, size)) }

          pub read_all : (d' : List ℕ) (y : ℕ) → n ≤ length d → Puts d d' 0 (part z' 0 n) y → Reads s d d' (Ok t)
          unfolding outcome answered filled_in
          read_all d' y k p =
              let w : ltb (length d) (length (records_of whole.value.header.columns)) ≡ false = le-ltb (length d) (length (records_of whole.value.header.columns)) (omega (arith, size)) in
              onto d' _
              (rw whole.is (pick_no _ _ _ _ w (ap taken (sym whole.holds.0))))
              (rw whole.is (pick_no _ _ _ _ w (p.stores ∙ rw f (ap (splice d 0) records))))

pub ruleset answers_read = (read_over, read_long, read_bad, read_short, read_all)
