-- The partitions of Data, counted one by one. Assumes nothing.
use Rattle.common.specs.declared.reading.Bad.{Bad}
use Rattle.std.proofs.Common.{Err, Ok}
use mathlib.Core.Path.{◌≡◌, refl, sym, ap, ◌∙◌}
use mathlib.Core.List.{List, ◌∷◌}
use Prim.Native.Nat.{ℕ, ◌+◌, ◌-◌, ◌*◌, ◌^◌, ◌≤◌, ◌<◌}
use native.Mathlib.Omega.{arith}
use borrow.Author.Tests.{eq-eqb, ne_eqb}
use lib.ListN.{length, length-append}
use Rattle.common.specs.Got.{Got, got, bad, on, Reading, said}
use Rattle.common.specs.declared.refusal.Fault.{Fault}
use Rattle.common.specs.declared.times.Bases.{Bases}
use Rattle.common.proofs.Choose.{pick_yes, pick_no}
use Rattle.data_field.specs.Fields.{live}
use Rattle.data_field.proofs.Ranges.{Moves}
use Rattle.data_partition.specs.Partitions.{partition_at}
use Rattle.data_partition.specs.declared.partitions.Partition.{Partition}
use Rattle.schema_check.specs.declared.records.Counts.{Counts}
use Rattle.call_check.specs.Tables.{Table}
use Rattle.data_contents.specs.Contents.{widths_of, Entry, Contents, entries_at, whole_at, contents_at, entries_listed, partition_listed, listed}
use Rattle.data_contents.proofs.Gives.{EntriesIn, Ended, entries_give, partition_moves}
use Rattle.data_contents.proofs.Unfolds.{contents_unfold}
use Rattle.list_count.specs.Counted.{entries_counted, contents_counted}
use Rattle.list_count.proofs.Follows.{on_got, on_bad}
use Rattle.list_count.proofs.Many.{table_few, entries_most}
use Rattle.common.proofs.Said.{said_got, said_not}

-- what entries that were counted are
record CountedEntries (x : Got (List Entry)) (n v q : ℕ) : Type 0 where
  entries : List Entry
  is : x ≡ got entries q
  many : v ≡ n + length (entries_listed entries q)

counts_of_lem : (x : Got (List Entry)) (n v q : ℕ) → entries_counted n x ≡ got v q → CountedEntries x n v q
unfolding entries_counted
counts_of_lem (got es m) n v q d =
    let f : m ≡ q = cc in
    let g : n + length (entries_listed es m) ≡ v = cc in
    record { entries = es; is = ap (got es) f; many = sym g ∙ ap (λ (x : ℕ). n + length (entries_listed es x)) f }
counts_of_lem (bad f p) n v q d = let z : ◌≡◌ {A = ℕ} 0 1 = cc in absurd (omega arith)

counted_bad : (x : Got (List Entry)) (n : ℕ) (f : Fault) (p : ℕ) → entries_counted n x ≡ bad f p → x ≡ bad f p
unfolding entries_counted
counted_bad (got e m) n f p d = let z : ◌≡◌ {A = ℕ} 0 1 = cc in absurd (omega arith)
counted_bad (bad y q) n f p d =
    let g : y ≡ f = cc in
    let h : q ≡ p = cc in
    rw (g, h) refl

more_counted : (n : ℕ) (x : Contents) (y : Got (List Contents)) → contents_counted n (on y (λ ps m. got (x ∷ ps) m)) ≡ contents_counted (n + length (partition_listed x)) y
unfolding contents_counted on
more_counted n x (got ps m) = ap (λ (i : ℕ). got i m) (omega (arith, length-append (partition_listed x) (listed ps)))
more_counted n x (bad f p) = refl

-- the partitions from p on, with n items before them; z is what counting all gives
pub record Passing (z : Got ℕ) (c : List ℕ) (k : Counts) (b : Bases) (s : List ℕ) (p n : ℕ) : Type 0 where
  pub within : p ≤ length s
  pub below : n ≤ 128 * p
  pub rest : contents_counted n (contents_at (widths_of c k) b s p (length s)) ≡ z

pub passing_none : (c : List ℕ) (k : Counts) (b : Bases) (s : List ℕ) → Passing (contents_counted 0 (contents_at (widths_of c k) b s 0 (length s))) c k b s 0 0
passing_none c k b s = record { within = omega arith; below = omega arith; rest = refl }

module _ (z : Got ℕ) (c : List ℕ) (k : Counts) (b : Bases) (s : List ℕ) (p n : ℕ) (i : Passing z c k b s p n) where
  pub passing_fits : length s ≤ 1073741824 → n + 1 < 18446744073709551616
  passing_fits l = omega (arith, i.within, i.below)

  pub passing_end : p ≡ length s → said (Ok (n, p)) ≡ z
  unfolding said contents_counted
  passing_end e = ap (λ (x : ℕ). got x p) plus ∙ ap (contents_counted n) (sym (contents_unfold (widths_of c k) b s (length s) p i.within ∙ sym (pick_yes _ _ _ _ (eq-eqb p (length s) e) refl))) ∙ i.rest
    where
      plus : n ≡ n + 0
      plus = omega arith

  module _ (h : p ≡ length s → ⊥) (r : Reading Partition) (told : said r ≡ partition_at s p (length s)) where
    -- a partition and those behind it
    abbrev More : Contents → ℕ → Got (List Contents)
    More x m = on (contents_at (widths_of c k) b s m (length s)) (λ ps q. got (x ∷ ps) q)

    here : contents_at (widths_of c k) b s p (length s) ≡ on (whole_at (widths_of c k) b s p (length s)) More
    here = contents_unfold (widths_of c k) b s (length s) p i.within ∙ sym (pick_no _ _ _ _ (ne_eqb p (length s) h) refl)

    refused_by : (err : Bad) → whole_at (widths_of c k) b s p (length s) ≡ bad err.fault err.place → bad err.fault err.place ≡ z
    unfolding said contents_counted
    refused_by err d = ap (contents_counted n) (sym (here ∙ on_bad _ err.fault err.place More d)) ∙ i.rest

    pub passing_bad : (err : Bad) → r ≡ Err err → bad err.fault err.place ≡ z
    unfolding whole_at said
    passing_bad err w = refused_by err (on_bad _ err.fault err.place _ (sym told ∙ rw w refl))

    module _ (t : Partition) (m : ℕ) (w : r ≡ Ok (t, m)) where
      moved : Moves s p (length s) m
      moved = ((partition_moves s (length s) p).given t m (said_got r _ t m told w)).0

      pub passing_within : m ≤ length s
      passing_within = moved.within

      pub passing_below : n + 1 ≤ 128 * m
      passing_below = omega (arith, moved.past, i.below)

      abbrev Whole : List Entry → ℕ → Contents
      Whole es e = record { header = t; entries = es; end = e }

      whole_as : whole_at (widths_of c k) b s p (length s) ≡ on (entries_at (widths_of c k) b 1 live s m (length s)) (λ es e. got (Whole es e) (e + 1))
      unfolding whole_at
      whole_as = on_got _ t m _ (said_got r _ t m told w)

      module _ (x : Reading ℕ) (inner : said x ≡ entries_counted (n + 1) (entries_at (widths_of c k) b 1 live s m (length s))) where
        pub passing_refused : (err : Bad) → x ≡ Err err → bad err.fault err.place ≡ z
        passing_refused err f = refused_by err (whole_as ∙ on_bad _ err.fault err.place _ (counted_bad _ (n + 1) err.fault err.place (said_not x _ err inner f)))

        module _ (v e : ℕ) (f : x ≡ Ok (v, e)) where
          counts : CountedEntries (entries_at (widths_of c k) b 1 live s m (length s)) (n + 1) v e
          counts = counts_of_lem _ (n + 1) v e (said_got x _ v e inner f)

          inside : EntriesIn (widths_of c k) b s (length s) live m counts.entries e × Ended s m (length s) e
          unfolding entries_at
          inside = (entries_give (length s - m) (widths_of c k) b 1 live s m (length s)).given counts.entries e counts.is

          pub passing_next : length s < 2 ^ 64 → e + 1 < 18446744073709551616
          passing_next l = omega (arith, inside.1.within)

          pub passing_less : length s - (e + 1) < length s - p
          passing_less = omega (arith, inside.1.within, inside.1.on, moved.past)

          pub passing_more : Table (length c) k → Passing z c k b s (e + 1) v
          passing_more table =
              let u = entries_most (widths_of c k) (table_few c k table) b s (length s) live m counts.entries e inside.0 in
              let g : v ≡ n + length (partition_listed (Whole counts.entries e)) = counts.many ∙ omega arith in
              record {
                within = omega (arith, inside.1.within);
                below = omega (arith, i.below, moved.past, u.on, u.most, counts.many);
                rest =
                    rw g
                    (sym (more_counted n (Whole counts.entries e) (contents_at (widths_of c k) b s (e + 1) (length s)))
                    ∙ ap (contents_counted n) (sym (here ∙ on_got _ (Whole counts.entries e) (e + 1) More (whole_as ∙ on_got _ counts.entries e _ counts.is)))
                    ∙ i.rest);
              }

pub ruleset passing = (passing_none, passing_fits, passing_end, passing_bad, passing_within, passing_below, passing_refused, passing_next, passing_less, passing_more, refl)
