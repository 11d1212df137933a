-- The parts of the header one after the other, and the two entries. Assumes nothing.
use Rattle.std.proofs.Common.{◌≡◌, ℕ, ◌+◌, ◌*◌, ◌<◌, ◌≤◌, List, [], length, sym, refl, ap, ◌∙◌, arith, w64, Fits, le-ltb, lt-ltb, Result, Ok, Err}
use Rattle.common.specs.Choose.{pick}
use Rattle.common.specs.Got.{Got, got, bad, Reading, said}
use Rattle.common.specs.Refusals.{bad_at}
use Rattle.common.specs.declared.reading.Bad.{Bad}
use Rattle.common.specs.declared.refusal.Fault.TheVariants.{LeftOver}
use Rattle.common.specs.declared.times.Bases.{Bases}
use Rattle.common.proofs.Choose.{pick_yes}
use Rattle.common.proofs.Gives.{never, got_value, got_place, gives_got, gives_is}
use Rattle.common.proofs.RoundTrip.{Reads, reads_on, reads_got, reads_no, reads_then, bad_on}
use Rattle.schema_check.specs.Records.{most_of}
use Rattle.schema_column.specs.declared.Column.{Column}
use Rattle.stats_file.specs.Bases.{bases_at}
use Rattle.stats_file.specs.Header.{columns_at, Group, group_at, Groups, sizes_of, groups_at, Header, header_at}
use Rattle.stats_file.specs.Buffer.{columns_from, Kept, Holds, count_in, sizes_in, head_in, column_count, Fills, FillsGroup, FillsGroups, FillsHeader}
use Rattle.stats_file.specs.declared.columns.Sizes.{Sizes}
use Rattle.stats_file.proofs.Buffers.{kept_none}
use Rattle.stats_file.proofs.Loops.{placed, unplaced, group_count}

-- ---- what each answer tells of its reading
columns_read : (x : Got (List Column)) (k : ℕ) (d d' : List ℕ) (r : Result ℕ Bad) (n : ℕ) → Fills x k d d' r → r ≡ Ok n → Reads x n (Holds d' k)
columns_read x k d d' r n h e =
    let read = placed x r h.answer n e in
    record { value = read.value; is = read.is; holds = h.holds read.value n read.is }

group_read : (x : Got Group) (k : ℕ) (d d' : List ℕ) (r : Reading ℕ) (v n : ℕ) → FillsGroup x k d d' r → r ≡ Ok (v, n) → Reads x n (λ g. (g.count ≡ v) × Holds d' (k + v) g.columns)
unfolding said count_in
group_read x k d d' r v n h e = go x h.answer h.holds
  where
    go : (z : Got Group) → said r ≡ count_in z → ((g : Group) (m : ℕ) → z ≡ got g m → Holds d' (k + g.count) g.columns) → Reads z n (λ g. (g.count ≡ v) × Holds d' (k + v) g.columns)
    go (got g m) i j =
        let o : got v n ≡ got g.count m = rw e at i in
        let a : g.count ≡ v = sym (got_value o) in
        record { value = g; is = ap (got g) (sym (got_place o)); holds = (a, rw (← a) (j g m refl)) }
    go (bad f p) i j =
        let o : got v n ≡ bad f p = rw e at i in
        never (sym o)

group_refused : (x : Got Group) (k : ℕ) (d d' : List ℕ) (r : Reading ℕ) (y : Bad) → FillsGroup x k d d' r → r ≡ Err y → x ≡ bad y.fault y.place
unfolding said count_in
group_refused x k d d' r y h e = go x h.answer
  where
    go : (z : Got Group) → said r ≡ count_in z → z ≡ bad y.fault y.place
    go (got g m) i =
        let o : bad y.fault y.place ≡ got g.count m = rw e at i in
        never o
    go (bad f p) i =
        let o : bad y.fault y.place ≡ bad f p = rw e at i in
        cc

groups_read : (x : Got Groups) (d d' : List ℕ) (r : Reading Sizes) (s : Sizes) (n : ℕ) → FillsGroups x d d' r → r ≡ Ok (s, n) → Reads x n (λ g. (g.sizes ≡ s) × Holds d' (column_count s) g.columns)
unfolding said sizes_in
groups_read x d d' r s n h e = go x h.answer h.holds
  where
    go : (z : Got Groups) → said r ≡ sizes_in z → ((g : Groups) (m : ℕ) → z ≡ got g m → Holds d' (column_count g.sizes) g.columns)
        → Reads z n (λ g. (g.sizes ≡ s) × Holds d' (column_count s) g.columns)
    go (got g m) i j =
        let o : got s n ≡ got g.sizes m = rw e at i in
        let a : g.sizes ≡ s = sym (got_value o) in
        record { value = g; is = ap (got g) (sym (got_place o)); holds = (a, rw (← a) (j g m refl)) }
    go (bad f p) i j =
        let o : got s n ≡ bad f p = rw e at i in
        never (sym o)

groups_refused : (x : Got Groups) (d d' : List ℕ) (r : Reading Sizes) (y : Bad) → FillsGroups x d d' r → r ≡ Err y → x ≡ bad y.fault y.place
unfolding said sizes_in
groups_refused x d d' r y h e = go x h.answer
  where
    go : (z : Got Groups) → said r ≡ sizes_in z → z ≡ bad y.fault y.place
    go (got g m) i =
        let o : bad y.fault y.place ≡ got g.sizes m = rw e at i in
        never o
    go (bad f p) i =
        let o : bad y.fault y.place ≡ bad f p = rw e at i in
        cc

-- ---- and what a reading tells of its answer
refused_groups : (x : Got Groups) (d d' : List ℕ) (y : Bad) → length d' ≡ length d → x ≡ bad y.fault y.place → FillsGroups x d d' (Err y)
unfolding said sizes_in
refused_groups x d d' y l e = record { answer = rw e refl; same = l; holds = λ g n i. never (sym e ∙ i) }

taken_groups : (x : Got Groups) (d d' : List ℕ) (z : Sizes) (n : ℕ) → length d' ≡ length d → Reads x n (λ g. (g.sizes ≡ z) × Holds d' (column_count z) g.columns) → FillsGroups x d d' (Ok (z, n))
unfolding said sizes_in
taken_groups x d d' z n l r = record {
  answer = rw (r.is, r.holds.0) refl;
  same = l;
  holds = λ g m i. gives_is {P = λ y k. Holds d' (column_count y.sizes) y.columns} (gives_got r.value n (rw r.holds.0 r.holds.1)) (sym r.is ∙ i);
}

refused_header : (x : Got Header) (d d' : List ℕ) (y : Bad) → length d' ≡ length d → x ≡ bad y.fault y.place → FillsHeader x d d' (Err y)
unfolding said head_in
refused_header x d d' y l e = record { answer = rw e refl; same = l; holds = λ h n i. never (sym e ∙ i) }

taken_header : (x : Got Header) (d d' : List ℕ) (b : Bases) (z : Sizes) (n : ℕ) → length d' ≡ length d → Reads x n (λ h. (h.bases ≡ b) × (h.sizes ≡ z) × Holds d' (column_count z) h.columns)
    → FillsHeader x d d' (Ok (record { bases = b; sizes = z }, n))
unfolding said head_in
taken_header x d d' b z n l r = record {
  answer = rw (r.is, r.holds.0, r.holds.1) refl;
  same = l;
  holds = λ h m i. gives_is {P = λ y k. Holds d' (column_count y.sizes) y.columns} (gives_got r.value n (rw r.holds.1 r.holds.2)) (sym r.is ∙ i);
}

-- ---- the groups behind the key
pub first_room : (d : List ℕ) → length d ≡ 2544 → 16 * (1 + most_of 1) ≤ length d
unfolding most_of pick
first_room d z = omega arith

module _ (s : List ℕ) (at end : ℕ) (d d₁ : List ℕ) (r₁ : Reading ℕ) (h₁ : FillsGroup (group_at 1 (columns_from d 0 1) s at end) 1 d d₁ r₁) where
  pub groups_bad₁ : (y : Bad) → r₁ ≡ Err y → FillsGroups (groups_at (columns_from d 0 1) s at end) d d₁ (Err y)
  unfolding groups_at
  groups_bad₁ y e = refused_groups _ d d₁ y h₁.same (bad_on _ (group_refused _ 1 d d₁ r₁ y h₁ e))

  module _ (k a : ℕ) (e₁ : r₁ ≡ Ok (k, a)) where
    first : Reads (group_at 1 (columns_from d 0 1) s at end) a (λ g. (g.count ≡ k) × Holds d₁ (1 + k) g.columns)
    first = group_read _ 1 d d₁ r₁ k a h₁ e₁

    pub clustering_le : k ≤ 32
    unfolding most_of pick
    clustering_le = omega (arith, gives_is (group_count 1 (columns_from d 0 1) s at end) first.is, first.holds.0)

    pub second_fits : Fits w64 (1 + k)
    second_fits = omega (arith, clustering_le)

    pub second_kept : Kept d₁ (1 + k)
    second_kept = first.holds.1.kept

    pub second_room : length d ≡ 2544 → 16 * (1 + k + most_of 2) ≤ length d₁
    unfolding most_of pick
    second_room z = omega (arith, clustering_le, h₁.same)

    module _ (d₂ : List ℕ) (r₂ : Reading ℕ) (h₂ : FillsGroup (group_at 2 (columns_from d₁ 0 (1 + k)) s a end) (1 + k) d₁ d₂ r₂) where
      pub groups_bad₂ : (y : Bad) → r₂ ≡ Err y → FillsGroups (groups_at (columns_from d 0 1) s at end) d d₂ (Err y)
      unfolding groups_at
      groups_bad₂ y e =
          refused_groups _ d d₂ y (h₂.same ∙ h₁.same)
          (reads_then _ first (λ g i. bad_on _ (rw i.1.columns at (group_refused _ (1 + k) d₁ d₂ r₂ y h₂ e))))

      module _ (m b : ℕ) (e₂ : r₂ ≡ Ok (m, b)) where
        second : Reads (group_at 2 (columns_from d₁ 0 (1 + k)) s a end) b (λ g. (g.count ≡ m) × Holds d₂ (1 + k + m) g.columns)
        second = group_read _ (1 + k) d₁ d₂ r₂ m b h₂ e₂

        pub statics_le : m ≤ 63
        unfolding most_of pick
        statics_le = omega (arith, gives_is (group_count 2 (columns_from d₁ 0 (1 + k)) s a end) second.is, second.holds.0)

        pub third_fits : Fits w64 (1 + k + m)
        third_fits = omega (arith, clustering_le, statics_le)

        pub third_kept : Kept d₂ (1 + k + m)
        third_kept = second.holds.1.kept

        pub third_room : length d ≡ 2544 → 16 * (1 + k + m + most_of 3) ≤ length d₂
        unfolding most_of pick
        third_room z = omega (arith, clustering_le, statics_le, h₁.same, h₂.same)

        module _ (d₃ : List ℕ) (r₃ : Reading ℕ) (h₃ : FillsGroup (group_at 3 (columns_from d₂ 0 (1 + k + m)) s b end) (1 + k + m) d₂ d₃ r₃) where
          pub groups_bad₃ : (y : Bad) → r₃ ≡ Err y → FillsGroups (groups_at (columns_from d 0 1) s at end) d d₃ (Err y)
          unfolding groups_at
          groups_bad₃ y e =
              refused_groups _ d d₃ y (h₃.same ∙ h₂.same ∙ h₁.same)
              (reads_then _ first (λ g i. reads_then _ (rw i.1.columns at second) (λ w j. bad_on _ (rw j.1.columns at (group_refused _ (1 + k + m) d₂ d₃ r₃ y h₃ e)))))

          pub groups_all : (q n : ℕ) → r₃ ≡ Ok (q, n) → FillsGroups (groups_at (columns_from d 0 1) s at end) d d₃ (Ok ((sizes_of k m q), n))
          unfolding groups_at
          groups_all q n e =
              let third = group_read _ (1 + k + m) d₂ d₃ r₃ q n h₃ e in
              taken_groups _ d d₃ (sizes_of k m q) n (h₃.same ∙ h₂.same ∙ h₁.same)
              (reads_on _ first (λ g i. reads_on _ (rw i.1.columns at second) (λ w j. reads_on _ (rw j.1.columns at third) (λ z o.
              reads_got _ n (rw (i.0, j.0, o.0) refl, o.1)))))

pub ruleset groupings = (groups_bad₁, groups_bad₂, groups_bad₃, groups_all)

-- ---- the whole header
module _ (s : List ℕ) (at end : ℕ) (d : List ℕ) (r₀ : Reading Bases) (h₀ : said r₀ ≡ bases_at s at end) where
  pub header_bad₀ : (y : Bad) → r₀ ≡ Err y → FillsHeader (header_at s at end) d d (Err y)
  unfolding header_at said
  header_bad₀ y e = refused_header _ d d y refl (bad_on _ (sym h₀ ∙ rw e refl))

  module _ (b : Bases) (a : ℕ) (e₀ : r₀ ≡ Ok (b, a)) (d₁ : List ℕ) (r₁ : Result ℕ Bad) (h₁ : Fills (columns_at 1 0 (columns_from d 0 0) s a end) 1 d d₁ r₁) where
    based : Reads (bases_at s at end) a (λ y. y ≡ b)
    unfolding said
    based = record { value = b; is = sym h₀ ∙ rw e₀ refl; holds = refl }

    pub header_bad₁ : (y : Bad) → r₁ ≡ Err y → FillsHeader (header_at s at end) d d₁ (Err y)
    unfolding header_at columns_from
    header_bad₁ y e = refused_header _ d d₁ y h₁.same (reads_then _ based (λ u i. bad_on _ (unplaced _ r₁ h₁.answer y e)))

    module _ (n : ℕ) (e₁ : r₁ ≡ Ok n) where
      keyed : Reads (columns_at 1 0 [] s a end) n (Holds d₁ 1)
      unfolding columns_from
      keyed = columns_read _ 1 d d₁ r₁ n h₁ e₁

      pub header_kept : Kept d₁ 1
      header_kept = keyed.holds.kept

      module _ (d₂ : List ℕ) (r₂ : Reading Sizes) (h₂ : FillsGroups (groups_at (columns_from d₁ 0 1) s n end) d₁ d₂ r₂) where
        pub header_bad₂ : (y : Bad) → r₂ ≡ Err y → FillsHeader (header_at s at end) d d₂ (Err y)
        unfolding header_at
        header_bad₂ y e =
            refused_header _ d d₂ y (h₂.same ∙ h₁.same)
            (reads_then _ based (λ u i. reads_then _ keyed (λ cs j. bad_on _ (rw j.columns at (groups_refused _ d₁ d₂ r₂ y h₂ e)))))

        module _ (z : Sizes) (m : ℕ) (e₂ : r₂ ≡ Ok (z, m)) where
          grouped : Reads (groups_at (columns_from d₁ 0 1) s n end) m (λ g. (g.sizes ≡ z) × Holds d₂ (column_count z) g.columns)
          grouped = groups_read _ d₁ d₂ r₂ z m h₂ e₂

          pub header_over : m < end → FillsHeader (header_at s at end) d d₂ (Err (bad_at LeftOver m))
          unfolding header_at
          header_over l =
              refused_header _ d d₂ (bad_at LeftOver m) (h₂.same ∙ h₁.same)
              (reads_then _ based (λ x i. reads_then _ keyed (λ cs j. reads_then _ (rw j.columns at grouped) (λ g o. sym (pick_yes _ _ _ _ (lt-ltb m end l) refl)))))

          pub header_all : end ≤ m → FillsHeader (header_at s at end) d d₂ (Ok (record { bases = b; sizes = z }, m))
          unfolding header_at
          header_all l =
              taken_header _ d d₂ b z m (h₂.same ∙ h₁.same)
              (reads_on _ based (λ x i. reads_on _ keyed (λ cs j. reads_on _ (rw j.columns at grouped) (λ g o.
              reads_no _ _ (le-ltb m end l) (reads_got _ m (i, o.0, o.1))))))

pub ruleset headers = (header_bad₀, header_bad₁, header_kept, header_bad₂, header_over, header_all, kept_none)
