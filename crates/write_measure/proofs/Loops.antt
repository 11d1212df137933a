-- The entries of a partition, and the partitions, measured one by one. Assumes nothing.
use mathlib.Core.Path.{◌≡◌, refl, sym, ap, ◌∙◌}
use mathlib.Core.List.{List, [], ◌∷◌}
use Prim.Native.Nat.{ℕ, ◌+◌, ◌-◌, ◌*◌, ◌≤◌, ◌<◌}
use native.Mathlib.Omega.{arith}
use borrow.Author.Tests.{eq-eqb, ne_eqb}
use lib.Dec.{eqb}
use lib.ListN.{length, length-append}
use Rattle.std.proofs.Common.{Ok, Err}
use Rattle.common.specs.Choose.{pick}
use Rattle.common.specs.Got.{Got, got, bad, on, Reading, said}
use Rattle.common.specs.declared.reading.Bad.{Bad}
use Rattle.common.specs.declared.refusal.Fault.{Fault}
use Rattle.common.specs.declared.times.Bases.{Bases}
use Rattle.common.proofs.Choose.{pick_yes, pick_no}
use Rattle.common.proofs.Said.{said_got, said_not}
use Rattle.data_field.specs.Fields.{live}
use Rattle.data_field.specs.declared.fields.Deletion.{Deletion}
use Rattle.schema_check.specs.declared.records.Counts.{Counts}
use Rattle.data_items.specs.declared.Item.{Item}
use Rattle.data_contents.specs.Contents.{Widths, widths_of, Entry, Contents, open_behind}
use Rattle.write_form.specs.Views.{EntryView, static_view, row_view, marker_view, show_value, show_entry, show_entries, show_partition, show_contents}
use Rattle.write_form.specs.Partitions.{head_bytes}
use Rattle.write_form.specs.Whole.{entry_bytes, back_behind, entries_bytes, partition_bytes, form_of, contents_bytes}
use Rattle.write_accept.specs.Records.{record_at, kind_at}
use Rattle.write_accept.specs.Tests.{bad_partition, bad_end}
use Rattle.write_accept.specs.Entries.{value_of, deletion_of, partition_of, taken_entry, taken_end, taken_entries, baseless, taken_partition, taken_at}
use Rattle.write_accept.proofs.Goods.{Good, record_gives}
use Rattle.write_accept.proofs.Lying.{key_lies}
use Rattle.write_accept.proofs.Unfolds.{entry_moves, entries_unfold, entries_move, taken_unfold}
use Rattle.write_record.specs.Records.{wrong_in}
use Rattle.write_record.specs.declared.tests.Turn.TheVariants.{Partition, End}
use Rattle.list_count.proofs.Follows.{on_got, on_bad}
use Rattle.write_number.proofs.Writing.{shown_len}
use Rattle.write_row_parts.proofs.Laws.{header_length}
use Rattle.write_measure.specs.Measured.{entry_measured, end_measured, entries_measured, contents_measured}
use Rattle.write_measure.proofs.Lengths.{partition_length}
use Rattle.write_measure.proofs.Most.{entry_grown, entries_grown}

-- ---- an entry that was measured
module _ (b : Bases) (t : Widths) (bytes : List ℕ) (opened : Deletion) (back : ℕ) where
  pub record EntryOf (x : Got Entry) (o : Deletion) (r n p : ℕ) : Type 0 where
    pub entry : Entry
    pub is : x ≡ got entry p
    pub opens : o ≡ open_behind opened entry
    pub behind : r ≡ back_behind back (length (entry_bytes b t back (show_entry bytes entry))) (show_entry bytes entry)
    pub size : n ≡ length (entry_bytes b t back (show_entry bytes entry))

  entry_got : (x : Got Entry) (o : Deletion) (r n p : ℕ) → got (o, r, n) p ≡ entry_measured b t bytes opened back x → EntryOf x o r n p
  unfolding entry_measured
  entry_got (got e q) o r n p d =
      let f : q ≡ p = cc in
      let g : ◌≡◌ {A = Deletion × ℕ × ℕ} (o, r, n) (open_behind opened e, back_behind back (length (entry_bytes b t back (show_entry bytes e))) (show_entry bytes e), length (entry_bytes b t back (show_entry bytes e))) = cc in
      record {
        entry = e;
        is = ap (got e) f;
        opens = ap (λ (x : Deletion × ℕ × ℕ). x.0) g;
        behind = ap (λ (x : Deletion × ℕ × ℕ). x.1) g;
        size = ap (λ (x : Deletion × ℕ × ℕ). x.2) g;
      }
  entry_got (bad f q) o r n p d = let z : ◌≡◌ {A = ℕ} 0 1 = cc in absurd (omega arith)

  entry_bad : (x : Got Entry) (f : Fault) (p : ℕ) → bad f p ≡ entry_measured b t bytes opened back x → x ≡ bad f p
  unfolding entry_measured
  entry_bad (got e q) f p d = let z : ◌≡◌ {A = ℕ} 0 1 = cc in absurd (omega arith)
  entry_bad (bad y q) f p d =
      let g : y ≡ f = cc in
      let h : q ≡ p = cc in
      rw (g, h) refl

  module _ (x : Got Entry) (q : Reading (Deletion × ℕ × ℕ)) (told : said q ≡ entry_measured b t bytes opened back x) where
    entry_of_lem : (o : Deletion) (r n p : ℕ) → q ≡ Ok ((o, r, n), p) → EntryOf x o r n p
    unfolding said
    entry_of_lem o r n p e = entry_got x o r n p (rw e at told)

    entry_not : (u : Bad) → q ≡ Err u → x ≡ bad u.fault u.place
    unfolding said
    entry_not u e = entry_bad x u.fault u.place (rw e at told)

behind_most : (back n : ℕ) (v : EntryView) → back_behind back n v ≤ back + n
unfolding back_behind
behind_most back n (static_view r) = omega arith
behind_most back n (row_view vs r) = omega arith
behind_most back n (marker_view m) = omega arith

more_measured : (b : Bases) (t : Widths) (bytes : List ℕ) (back total : ℕ) (e : Entry) (x : Got (List Entry))
    → entries_measured b t bytes back total (on x (λ es p. got (e ∷ es) p))
    ≡ entries_measured b t bytes (back_behind back (length (entry_bytes b t back (show_entry bytes e))) (show_entry bytes e)) (total + length (entry_bytes b t back (show_entry bytes e))) x
unfolding entries_measured entries_bytes on
more_measured b t bytes back total e (got es p) =
    let w = entry_bytes b t back (show_entry bytes e) in
    ap (λ (i : ℕ). got i p) (omega (arith, length-append w (entries_bytes b t (back_behind back (length w) (show_entry bytes e)) (show_entries bytes es))))
more_measured b t bytes back total e (bad f p) = refl

-- ---- the end record
end_same : (b : Bases) (t : Widths) (bytes : List ℕ) (back total : ℕ) (x : Got Item) → end_measured total (on x (λ i n. got [] n)) ≡ entries_measured b t bytes back total (on x (λ i n. got [] n))
unfolding end_measured entries_measured entries_bytes on
end_same b t bytes back total (got i n) = ap (λ (m : ℕ). got m n) (omega arith)
end_same b t bytes back total (bad f p) = refl

module _ (b : Bases) (s bytes : List ℕ) (opened : Deletion) (total at : ℕ) where
  end_as : taken_end b opened s at (length s) ≡ on (record_at b (bad_end opened) s at (length s)) (λ i n. got [] n)
  unfolding taken_end
  end_as = refl

  module _ (q : Reading Item) (told : said q ≡ record_at b (wrong_in bytes (End opened)) s at (length s)) where
    end_told : said q ≡ record_at b (bad_end opened) s at (length s)
    unfolding wrong_in
    end_told = told

    pub end_bad : (u : Bad) → q ≡ Err u → bad u.fault u.place ≡ end_measured total (taken_end b opened s at (length s))
    unfolding end_measured
    end_bad u e = ap (end_measured total) (sym (end_as ∙ on_bad _ u.fault u.place _ (said_not q _ u end_told e)))

    pub end_to : (y : Item) (m : ℕ) → q ≡ Ok (y, m) → said (Ok (total + 1, m)) ≡ end_measured total (taken_end b opened s at (length s))
    unfolding said end_measured
    end_to y m e = ap (end_measured total) (sym (end_as ∙ on_got _ y m _ (said_got q _ y m end_told e)))

pub ruleset ends = (end_bad, end_to)

-- ---- the entries from p on, with n bytes before them; z is what measuring all gives
pub record Entering (z : Got ℕ) (c : List ℕ) (k : Counts) (b : Bases) (s bytes : List ℕ) (first : ℕ) (opened : Deletion) (back n p : ℕ) : Type 0 where
  pub within : p ≤ length s
  pub short : length bytes ≤ 1073741824
  pub table : length s ≤ 1073741824
  pub inside : back ≤ n
  pub below : n ≤ 33554432 * p
  pub rest : entries_measured b (widths_of c k) bytes back n (taken_entries (widths_of c k) b bytes first opened s p (length s)) ≡ z

pub entering_none : (c : List ℕ) (k : Counts) (b : Bases) (s bytes : List ℕ) (head total at : ℕ) → length s ≤ 1073741824 → length bytes ≤ 1073741824 → at ≤ length s → head ≤ total → total ≤ 33554432 * at
    → Entering (entries_measured b (widths_of c k) bytes head total (taken_entries (widths_of c k) b bytes 1 live s at (length s))) c k b s bytes 1 live head total at
entering_none c k b s bytes head total at t h l i j = record { within = l; short = h; table = t; inside = i; below = j; rest = refl }

module _ (z : Got ℕ) (c : List ℕ) (k : Counts) (b : Bases) (s bytes : List ℕ) (first : ℕ) (opened : Deletion) (back n p : ℕ) (i : Entering z c k b s bytes first opened back n p) where
  pub entering_back : back ≤ 36028797018963968
  entering_back = omega (arith, i.inside, i.below, i.within, i.table)

  pub entering_sum : n ≤ 36028797018963968
  entering_sum = omega (arith, i.below, i.within, i.table)

  pub entering_table : length s ≤ 1073741824
  entering_table = i.table

  pub entering_short : length bytes ≤ 1073741824
  entering_short = i.short

  module _ (q : Reading ℕ) (told : said q ≡ kind_at s p (length s)) where
    pub entering_cut : (u : Bad) → q ≡ Err u → bad u.fault u.place ≡ z
    unfolding entries_measured
    entering_cut u e =
        ap (entries_measured b (widths_of c k) bytes back n) (sym (entries_unfold b bytes s (length s) (widths_of c k) first opened p ∙ on_bad _ u.fault u.place _ (said_not q _ u told e))) ∙ i.rest

    module _ (f j : ℕ) (g : q ≡ Ok (f, j)) where
      -- an entry and those behind it
      abbrev More : Got (List Entry)
      More = on (taken_entry (widths_of c k) b bytes first opened f s p (length s)) (λ e m. on (taken_entries (widths_of c k) b bytes 0 (open_behind opened e) s m (length s)) (λ es p. got (e ∷ es) p))

      here : taken_entries (widths_of c k) b bytes first opened s p (length s) ≡ pick (eqb f 7) (taken_end b opened s p (length s)) More
      here = entries_unfold b bytes s (length s) (widths_of c k) first opened p ∙ on_got _ f j _ (said_got q _ f j told g)

      closed : end_measured n (taken_end b opened s p (length s)) ≡ entries_measured b (widths_of c k) bytes back n (taken_end b opened s p (length s))
      closed = ap (end_measured n) (end_as b s bytes opened n p) ∙ end_same b (widths_of c k) bytes back n _ ∙ ap (entries_measured b (widths_of c k) bytes back n) (sym (end_as b s bytes opened n p))

      pub entering_closed : (x : Reading ℕ) → f ≡ 7 → said x ≡ end_measured n (taken_end b opened s p (length s)) → said x ≡ z
      entering_closed x e d = d ∙ closed ∙ ap (entries_measured b (widths_of c k) bytes back n) (sym (here ∙ sym (pick_yes _ _ _ _ (eq-eqb f 7 e) refl))) ∙ i.rest

      module _ (h : f ≡ 7 → ⊥) (r : Reading (Deletion × ℕ × ℕ)) (passed : said r ≡ entry_measured b (widths_of c k) bytes opened back (taken_entry (widths_of c k) b bytes first opened f s p (length s))) where
        other : taken_entries (widths_of c k) b bytes first opened s p (length s) ≡ More
        other = here ∙ sym (pick_no _ _ _ _ (ne_eqb f 7 h) refl)

        pub entering_refused : (u : Bad) → r ≡ Err u → bad u.fault u.place ≡ z
        unfolding entries_measured
        entering_refused u w = ap (entries_measured b (widths_of c k) bytes back n) (sym (other ∙ on_bad _ u.fault u.place _ (entry_not b (widths_of c k) bytes opened back _ r passed u w))) ∙ i.rest

        module _ (o : Deletion) (u v m : ℕ) (w : r ≡ Ok ((o, u, v), m)) where
          it : EntryOf b (widths_of c k) bytes opened back (taken_entry (widths_of c k) b bytes first opened f s p (length s)) o u v m
          it = entry_of_lem b (widths_of c k) bytes opened back _ r passed o u v m w

          moved : (p + 64 ≤ m) × (m ≤ length s)
          moved = (entry_moves b bytes s (length s) (widths_of c k) first opened f p).given it.entry m it.is

          most : v ≤ 33554432 * (m - p)
          most = let d = (entry_grown b bytes s (length s) i.short (widths_of c k) back first opened f p).given it.entry m it.is in omega (arith, it.size)

          pub entering_fits : n + v < 18446744073709551616
          entering_fits = omega (arith, i.below, i.table, i.within, most, moved.0, moved.1)

          pub entering_less : length s - m < length s - p
          entering_less = omega (arith, moved.0, moved.1)

          pub entering_more : Entering z c k b s bytes 0 o u (n + v) m
          entering_more = record {
            within = moved.1;
            short = i.short;
            table = i.table;
            inside = omega (arith, i.inside, it.behind, it.size, behind_most back (length (entry_bytes b (widths_of c k) back (show_entry bytes it.entry))) (show_entry bytes it.entry));
            below = omega (arith, i.below, most, moved.0);
            rest = on_it ∙ i.rest;
          }
            where
              on_it : entries_measured b (widths_of c k) bytes u (n + v) (taken_entries (widths_of c k) b bytes 0 o s m (length s)) ≡ entries_measured b (widths_of c k) bytes back n (taken_entries (widths_of c k) b bytes first opened s p (length s))
              on_it =
                  ap (λ (x : Deletion). entries_measured b (widths_of c k) bytes u (n + v) (taken_entries (widths_of c k) b bytes 0 x s m (length s))) it.opens
                  ∙ ap (λ (x : ℕ). entries_measured b (widths_of c k) bytes x (n + v) (taken_entries (widths_of c k) b bytes 0 (open_behind opened it.entry) s m (length s))) it.behind
                  ∙ ap (λ (x : ℕ). entries_measured b (widths_of c k) bytes (back_behind back (length (entry_bytes b (widths_of c k) back (show_entry bytes it.entry))) (show_entry bytes it.entry)) (n + x) (taken_entries (widths_of c k) b bytes 0 (open_behind opened it.entry) s m (length s))) it.size
                  ∙ sym (more_measured b (widths_of c k) bytes back n it.entry (taken_entries (widths_of c k) b bytes 0 (open_behind opened it.entry) s m (length s)))
                  ∙ ap (entries_measured b (widths_of c k) bytes back n) (sym (other ∙ on_got _ it.entry m _ it.is))

pub ruleset entering = (entering_none, entering_back, entering_sum, entering_table, entering_short, entering_cut, entering_closed, entering_refused, entering_fits, entering_less, entering_more, refl)

-- ---- entries that were measured
module _ (b : Bases) (t : Widths) (bytes : List ℕ) (back total : ℕ) where
  record EntriesOf (x : Got (List Entry)) (n p : ℕ) : Type 0 where
    entries : List Entry
    is : x ≡ got entries p
    size : n ≡ total + length (entries_bytes b t back (show_entries bytes entries)) + 1

  entries_of_lem : (x : Got (List Entry)) (n p : ℕ) → entries_measured b t bytes back total x ≡ got n p → EntriesOf x n p
  unfolding entries_measured
  entries_of_lem (got es q) n p d =
      let f : q ≡ p = cc in
      let g : total + length (entries_bytes b t back (show_entries bytes es)) + 1 ≡ n = cc in
      record { entries = es; is = ap (got es) f; size = sym g }
  entries_of_lem (bad f q) n p d = let z : ◌≡◌ {A = ℕ} 0 1 = cc in absurd (omega arith)

  entries_not : (x : Got (List Entry)) (f : Fault) (p : ℕ) → entries_measured b t bytes back total x ≡ bad f p → x ≡ bad f p
  unfolding entries_measured
  entries_not (got es q) f p d = let z : ◌≡◌ {A = ℕ} 0 1 = cc in absurd (omega arith)
  entries_not (bad y q) f p d =
      let g : y ≡ f = cc in
      let h : q ≡ p = cc in
      rw (g, h) refl

-- ---- the partitions, with n bytes before them
unfoldable Measure : Bases → Widths → List ℕ → ℕ → Got (List Contents) → Got ℕ
Measure b t bytes n (got ps p) = got (n + length (contents_bytes b t bytes ps)) p
Measure b t bytes n (bad f p) = bad f p

module _ (b : Bases) (t : Widths) (bytes : List ℕ) where
  measure_none : (x : Got (List Contents)) → Measure b t bytes 0 x ≡ contents_measured b t bytes x
  unfolding Measure contents_measured
  measure_none (got ps p) = ap (λ (n : ℕ). got n p) (omega arith)
  measure_none (bad f p) = refl

  measure_more : (n : ℕ) (x : Contents) (y : Got (List Contents)) → Measure b t bytes n (on y (λ ps m. got (x ∷ ps) m)) ≡ Measure b t bytes (n + length (partition_bytes b t (show_partition bytes x))) y
  unfolding Measure on form_of
  measure_more n x (got ps m) = ap (λ (i : ℕ). got i m) (omega (arith, length-append (partition_bytes b t (show_partition bytes x)) (form_of b t (show_contents bytes ps))))
  measure_more n x (bad f p) = refl

  measure_last : (n p : ℕ) → Measure b t bytes n (got [] p) ≡ got n p
  unfolding Measure form_of
  measure_last n p = ap (λ (i : ℕ). got i p) (omega arith)

pub record Passing (z : Got ℕ) (c : List ℕ) (k : Counts) (b : Bases) (s bytes : List ℕ) (p n : ℕ) : Type 0 where
  pub within : p ≤ length s
  pub short : length bytes ≤ 1073741824
  pub table : length s ≤ 1073741824
  pub below : n ≤ 33554432 * p
  rest : Measure b (widths_of c k) bytes n (taken_at (widths_of c k) b bytes s p (length s)) ≡ z

pub passing_none : (c : List ℕ) (k : Counts) (b : Bases) (s bytes : List ℕ) → length s ≤ 1073741824 → length bytes ≤ 1073741824
    → Passing (contents_measured b (widths_of c k) bytes (taken_at (widths_of c k) b bytes s 0 (length s))) c k b s bytes 0 0
passing_none c k b s bytes t h = record { within = omega arith; short = h; table = t; below = omega arith; rest = measure_none b (widths_of c k) bytes _ }

module _ (z : Got ℕ) (c : List ℕ) (k : Counts) (b : Bases) (s bytes : List ℕ) (p n : ℕ) (i : Passing z c k b s bytes p n) where
  pub passing_table : length s ≤ 1073741824
  passing_table = i.table

  pub passing_short : length bytes ≤ 1073741824
  passing_short = i.short

  pub passing_end : p ≡ length s → said (Ok (n, p)) ≡ z
  unfolding said
  passing_end e =
      sym (measure_last b (widths_of c k) bytes n p)
      ∙ ap (Measure b (widths_of c k) bytes n) (sym (taken_unfold b bytes s (length s) (widths_of c k) p i.within ∙ sym (pick_yes _ _ _ _ (eq-eqb p (length s) e) refl)))
      ∙ i.rest

  module _ (h : p ≡ length s → ⊥) (r : Reading Item) (told : said r ≡ record_at baseless (wrong_in bytes Partition) s p (length s)) where
    -- a partition and those behind it
    abbrev Next : Contents → ℕ → Got (List Contents)
    Next x m = on (taken_at (widths_of c k) b bytes s m (length s)) (λ ps q. got (x ∷ ps) q)

    first : taken_at (widths_of c k) b bytes s p (length s) ≡ on (taken_partition (widths_of c k) b bytes s p (length s)) Next
    first = taken_unfold b bytes s (length s) (widths_of c k) p i.within ∙ sym (pick_no _ _ _ _ (ne_eqb p (length s) h) refl)

    record_told : said r ≡ record_at baseless (bad_partition bytes) s p (length s)
    unfolding wrong_in
    record_told = told

    abbrev Rest : Item → ℕ → Got Contents
    Rest y m = on (taken_entries (widths_of c k) b bytes 1 live s m (length s)) (λ es e. got (record { header = partition_of y; entries = es; end = 0 }) e)

    partition_as : taken_partition (widths_of c k) b bytes s p (length s) ≡ on (record_at baseless (bad_partition bytes) s p (length s)) Rest
    unfolding taken_partition
    partition_as = refl

    refused_by : (y : Fault) (x : ℕ) → taken_partition (widths_of c k) b bytes s p (length s) ≡ bad y x → bad y x ≡ z
    unfolding Measure
    refused_by y x d = ap (Measure b (widths_of c k) bytes n) (sym (first ∙ on_bad _ y x Next d)) ∙ i.rest

    pub passing_bad : (u : Bad) → r ≡ Err u → bad u.fault u.place ≡ z
    passing_bad u w = refused_by u.fault u.place (partition_as ∙ on_bad _ u.fault u.place Rest (said_not r _ u record_told w))

    module _ (y : Item) (m : ℕ) (w : r ≡ Ok (y, m)) where
      got_as : record_at baseless (bad_partition bytes) s p (length s) ≡ got y m
      got_as = said_got r _ y m record_told w

      good : Good baseless (bad_partition bytes) s p (length s) y m
      good = (record_gives baseless _ s p (length s)).given y m got_as

      key : y.length ≤ 1073741824
      key = omega (arith, key_lies bytes y good.right, i.short)

      pub passing_within : m ≤ length s
      passing_within = good.within

      pub passing_head : 14 + y.length < 18446744073709551616
      passing_head = omega (arith, key)

      pub passing_sum : n + (14 + y.length) < 18446744073709551616
      passing_sum = omega (arith, key, i.below, i.within, i.table)

      pub passing_inside : 14 + y.length ≤ n + (14 + y.length)
      passing_inside = omega arith

      pub passing_below : n + (14 + y.length) ≤ 33554432 * m
      passing_below = omega (arith, key, i.below, good.next)

      head_as : length (head_bytes (show_value bytes (value_of y)) (deletion_of y)) ≡ 14 + y.length
      head_as = header_length (show_value bytes (value_of y)) (deletion_of y) ∙ ap (λ (x : ℕ). 14 + x) (shown_len bytes y.offset y.length (key_lies bytes y good.right))

      module _ (x : Reading ℕ) (inner : said x ≡ entries_measured b (widths_of c k) bytes (14 + y.length) (n + (14 + y.length)) (taken_entries (widths_of c k) b bytes 1 live s m (length s))) where
        pub passing_refused : (u : Bad) → x ≡ Err u → bad u.fault u.place ≡ z
        passing_refused u e =
            refused_by u.fault u.place (partition_as ∙ on_got _ y m Rest got_as ∙ on_bad _ u.fault u.place _ (entries_not b (widths_of c k) bytes (14 + y.length) (n + (14 + y.length)) _ u.fault u.place (said_not x _ u inner e)))

        module _ (v e : ℕ) (f : x ≡ Ok (v, e)) where
          its : EntriesOf b (widths_of c k) bytes (14 + y.length) (n + (14 + y.length)) (taken_entries (widths_of c k) b bytes 1 live s m (length s)) v e
          its = entries_of_lem b (widths_of c k) bytes (14 + y.length) (n + (14 + y.length)) _ v e (said_got x _ v e inner f)

          gone : (m + 64 ≤ e) × (e ≤ length s)
          gone = (entries_move b bytes s (length s) (widths_of c k) 1 live m).given its.entries e its.is

          pub passing_less : length s - e < length s - p
          passing_less = omega (arith, gone.0, gone.1, good.next)

          abbrev Whole : Contents
          Whole = record { header = partition_of y; entries = its.entries; end = 0 }

          pub passing_more : Passing z c k b s bytes e v
          passing_more =
              let d = (entries_grown b bytes s (length s) i.short (widths_of c k) (14 + y.length) 1 live m).given its.entries e its.is in
              record {
                within = gone.1;
                short = i.short;
                table = i.table;
                below = omega (arith, its.size, passing_below, d.0, d.1);
                rest = on_it ∙ i.rest;
              }
            where
              sized : v ≡ n + length (partition_bytes b (widths_of c k) (show_partition bytes Whole))
              sized = let a = partition_length b (widths_of c k) (show_partition bytes Whole) (14 + y.length) head_as in omega (arith, its.size, a)

              on_it : Measure b (widths_of c k) bytes v (taken_at (widths_of c k) b bytes s e (length s)) ≡ Measure b (widths_of c k) bytes n (taken_at (widths_of c k) b bytes s p (length s))
              on_it =
                  ap (λ (x : ℕ). Measure b (widths_of c k) bytes x (taken_at (widths_of c k) b bytes s e (length s))) sized
                  ∙ sym (measure_more b (widths_of c k) bytes n Whole (taken_at (widths_of c k) b bytes s e (length s)))
                  ∙ ap (Measure b (widths_of c k) bytes n) (sym (first ∙ on_got _ Whole e Next (partition_as ∙ on_got _ y m Rest got_as ∙ on_got _ its.entries e _ its.is)))

pub ruleset passing = (passing_none, passing_table, passing_short, passing_end, passing_bad, passing_within, passing_head, passing_sum, passing_inside, passing_below, passing_refused, passing_less, passing_more, refl)
