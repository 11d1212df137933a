-- The entries of a partition, counted one by one. Assumes nothing.
use Rattle.common.specs.declared.reading.Bad.{Bad}
use Rattle.std.proofs.Common.{Err, Ok}
use mathlib.Core.Path.{◌≡◌, refl, sym, ap, ◌∙◌}
use mathlib.Core.List.{List, [], ◌∷◌}
use Prim.Native.Nat.{ℕ, ◌+◌, ◌-◌, ◌*◌, ◌≤◌, ◌<◌}
use native.Mathlib.Omega.{arith}
use borrow.Author.Tests.{eq-eqb, ne_eqb}
use lib.Dec.{eqb}
use lib.ListN.{length, length-append}
use Rattle.common.specs.Choose.{pick}
use Rattle.common.specs.Got.{Got, got, bad, on, Reading, said}
use Rattle.common.specs.declared.refusal.Fault.{Fault}
use Rattle.common.specs.declared.refusal.Fault.TheVariants.{OutOfTurn}
use Rattle.common.specs.declared.times.Bases.{Bases}
use Rattle.common.proofs.Choose.{pick_yes, pick_no}
use Rattle.common.proofs.Gives.{Gives, gives_got, gives_on, gives_pick}
use Rattle.data_field.specs.Fields.{live, byte_at}
use Rattle.data_field.specs.declared.fields.Deletion.{Deletion}
use Rattle.schema_check.specs.declared.records.Counts.{Counts}
use Rattle.call_check.specs.Tables.{Table}
use Rattle.data_contents.specs.Contents.{Widths, widths_of, Entry, open_behind, row_entry_at, marker_entry_at, entry_at, closed_at, entries_at, entry_listed, entries_listed}
use Rattle.data_contents.proofs.Gives.{EntryIn, entry_gives, entry_moves}
use Rattle.data_contents.proofs.Unfolds.{entries_unfold}
use Rattle.list_count.specs.Counted.{entry_counted, marker_counted, entries_counted}
use Rattle.list_count.proofs.Follows.{on_got, on_bad}
use Rattle.list_count.proofs.Many.{table_few, entry_most}
use Rattle.common.proofs.Said.{said_got, said_not}

any : {A : Type 0} (x : Got A) → Gives x (λ a n. Unit)
any x = record { given = λ a n e. tt }

-- a row leaves the open range as it is
pub row_opens : (t : Widths) (b : Bases) (first : ℕ) (s : List ℕ) (at end : ℕ) (opened : Deletion) → Gives (row_entry_at t b first s at end) (λ e n. open_behind opened e ≡ opened)
unfolding row_entry_at
row_opens t b first s at end opened =
    gives_on _ (any _) (λ r n g.
    gives_pick (eqb r.extended 1)
    (λ e. gives_on _ (any _) (λ cs m h. gives_got _ _ refl))
    (λ e. gives_on _ (any _) (λ vs p h. gives_on _ (any _) (λ cs m i. gives_got _ _ refl))))

-- what an entry that was counted is
pub record CountedEntry (x : Got Entry) (n v q : ℕ) : Type 0 where
  pub entry : Entry
  pub is : x ≡ got entry q
  pub many : v ≡ n + length (entry_listed entry)

counts_of_lem : (x : Got Entry) (n v q : ℕ) → entry_counted n x ≡ got v q → CountedEntry x n v q
unfolding entry_counted
counts_of_lem (got e m) n v q d =
    let f : m ≡ q = cc in
    let g : n + length (entry_listed e) ≡ v = cc in
    record { entry = e; is = ap (got e) f; many = sym g }
counts_of_lem (bad f p) n v q d = let z : ◌≡◌ {A = ℕ} 0 1 = cc in absurd (omega arith)

-- what a marker that was counted is
pub record PassedEntry (x : Got Entry) (opened : Deletion) (n : ℕ) (o : Deletion) (v q : ℕ) : Type 0 where
  pub entry : Entry
  pub is : x ≡ got entry q
  pub opens : o ≡ open_behind opened entry
  pub many : v ≡ n + length (entry_listed entry)

passed_of : (x : Got Entry) (opened : Deletion) (n : ℕ) (o : Deletion) (v q : ℕ) → marker_counted n opened x ≡ got (o, v) q → PassedEntry x opened n o v q
unfolding marker_counted
passed_of (got e m) opened n o v q d =
    let f : m ≡ q = cc in
    let g : ◌≡◌ {A = Deletion × ℕ} (open_behind opened e, n + length (entry_listed e)) (o, v) = cc in
    record { entry = e; is = ap (got e) f; opens = sym (ap (λ (x : Deletion × ℕ). x.0) g); many = sym (ap (λ (x : Deletion × ℕ). x.1) g) }
passed_of (bad f p) opened n o v q d = let z : ◌≡◌ {A = ℕ} 0 1 = cc in absurd (omega arith)

passed_bad : (x : Got Entry) (opened : Deletion) (n : ℕ) (f : Fault) (p : ℕ) → marker_counted n opened x ≡ bad f p → x ≡ bad f p
unfolding marker_counted
passed_bad (got e m) opened n f p d = let z : ◌≡◌ {A = ℕ} 0 1 = cc in absurd (omega arith)
passed_bad (bad y q) opened n f p d =
    let g : y ≡ f = cc in
    let h : q ≡ p = cc in
    rw (g, h) refl

counted_bad : (x : Got Entry) (n : ℕ) (f : Fault) (p : ℕ) → entry_counted n x ≡ bad f p → x ≡ bad f p
unfolding entry_counted
counted_bad (got e m) n f p d = let z : ◌≡◌ {A = ℕ} 0 1 = cc in absurd (omega arith)
counted_bad (bad y q) n f p d =
    let g : y ≡ f = cc in
    let h : q ≡ p = cc in
    rw (g, h) refl

more_counted : (n : ℕ) (e : Entry) (x : Got (List Entry)) → entries_counted n (on x (λ es p. got (e ∷ es) p)) ≡ entries_counted (n + length (entry_listed e)) x
unfolding entries_counted on
more_counted n e (got es p) = ap (λ (i : ℕ). got i p) (omega (arith, length-append (entry_listed e) (entries_listed es p)))
more_counted n e (bad f p) = refl

-- ---- the end byte
closed_is : (opened : Deletion) (p : ℕ) → opened.deleted ≡ 0 → got [] p ≡ closed_at opened p
unfolding closed_at
closed_is opened p e = pick_yes _ _ _ _ (eq-eqb _ _ e) refl

opened_is : (opened : Deletion) (p : ℕ) → (opened.deleted ≡ 0 → ⊥) → bad OutOfTurn p ≡ closed_at opened p
unfolding closed_at
opened_is opened p e = pick_no _ _ _ _ (ne_eqb _ _ e) refl

module _ (opened : Deletion) (p n : ℕ) where
  pub end_closed : opened.deleted ≡ 0 → said (Ok ((n + 1), p)) ≡ entries_counted n (closed_at opened p)
  unfolding said entries_counted
  end_closed e = ap (entries_counted n) (closed_is opened p e)

  pub end_opened : (opened.deleted ≡ 0 → ⊥) → bad OutOfTurn p ≡ entries_counted n (closed_at opened p)
  unfolding said entries_counted
  end_opened e = ap (entries_counted n) (opened_is opened p e)

pub ruleset ends = (end_closed, end_opened)

-- the entries from p on, with n items before them; z is what counting all gives
pub record Entering (z : Got ℕ) (c : List ℕ) (k : Counts) (b : Bases) (s : List ℕ) (first : ℕ) (opened : Deletion) (p n : ℕ) : Type 0 where
  pub within : p ≤ length s
  pub below : n ≤ 128 * p
  pub rest : entries_counted n (entries_at (widths_of c k) b first opened s p (length s)) ≡ z

pub entering_none : (c : List ℕ) (k : Counts) (b : Bases) (s : List ℕ) (at n : ℕ) → n ≤ 128 * at → at ≤ length s
    → Entering (entries_counted n (entries_at (widths_of c k) b 1 live s at (length s))) c k b s 1 live at n
entering_none c k b s at n h l = record { within = l; below = h; rest = refl }

module _ (z : Got ℕ) (c : List ℕ) (k : Counts) (b : Bases) (s : List ℕ) (first : ℕ) (opened : Deletion) (p n : ℕ) (i : Entering z c k b s first opened p n) where
  pub entering_many : length s ≤ 1073741824 → n ≤ 274877906944
  entering_many l = omega (arith, i.within, i.below)

  module _ (q : Reading ℕ) (told : said q ≡ byte_at s p (length s)) where
    pub entering_cut : (err : Bad) → q ≡ Err err → bad err.fault err.place ≡ z
    unfolding said entries_counted
    entering_cut err e = ap (entries_counted n) (sym (entries_unfold (widths_of c k) b s (length s) first opened p ∙ on_bad _ err.fault err.place _ (said_not q _ err told e))) ∙ i.rest

    module _ (f j : ℕ) (g : q ≡ Ok (f, j)) where
      -- an entry and those behind it
      abbrev More : Got (List Entry)
      More = on (entry_at (widths_of c k) b first opened f s p (length s)) (λ e m. on (entries_at (widths_of c k) b 0 (open_behind opened e) s m (length s)) (λ es p. got (e ∷ es) p))

      here : entries_at (widths_of c k) b first opened s p (length s) ≡ pick (eqb f 1) (closed_at opened p) More
      here = entries_unfold (widths_of c k) b s (length s) first opened p ∙ on_got _ f j _ (said_got q _ f j told g)

      closed : f ≡ 1 → entries_counted n (closed_at opened p) ≡ z
      closed e = ap (entries_counted n) (sym (here ∙ sym (pick_yes _ _ _ _ (eq-eqb f 1 e) refl))) ∙ i.rest

      pub entering_closed : (x : Reading ℕ) → f ≡ 1 → said x ≡ entries_counted n (closed_at opened p) → said x ≡ z
      entering_closed x e d = d ∙ closed e

      module _ (h : f ≡ 1 → ⊥) where
        other : entries_at (widths_of c k) b first opened s p (length s) ≡ More
        other = here ∙ sym (pick_no _ _ _ _ (ne_eqb f 1 h) refl)

        -- behind an entry
        module _ (table : Table (length c) k) (e : Entry) (m : ℕ) (d : entry_at (widths_of c k) b first opened f s p (length s) ≡ got e m) where
          in_it : EntryIn (widths_of c k) b s opened p (length s) e m
          in_it = (entry_gives (widths_of c k) b s p (length s) first opened f).given e m d

          next : (x : Deletion) (v : ℕ) → x ≡ open_behind opened e → v ≡ n + length (entry_listed e) → Entering z c k b s 0 x m v
          next x v y w =
              let o = entry_moves (widths_of c k) b s p (length s) opened e m in_it in
              record {
                within = o.within;
                below = omega (arith, i.below, o.past, w, entry_most (widths_of c k) (table_few c k table) b s (length s) opened p e m in_it);
                rest =
                    rw (y, w)
                    (sym (more_counted n e (entries_at (widths_of c k) b 0 (open_behind opened e) s m (length s)))
                    ∙ ap (entries_counted n) (sym (other ∙ on_got _ e m _ d))
                    ∙ i.rest);
              }

        refused_by : (err : Bad) → entry_at (widths_of c k) b first opened f s p (length s) ≡ bad err.fault err.place → bad err.fault err.place ≡ z
        unfolding said entries_counted
        refused_by err d = ap (entries_counted n) (sym (other ∙ on_bad _ err.fault err.place _ d)) ∙ i.rest

        -- ---- a marker
        module _ (y : f ≡ 2) (r : Reading (Deletion × ℕ)) (found : said r ≡ marker_counted n opened (marker_entry_at (widths_of c k) b opened s p (length s))) where
          marker_as : entry_at (widths_of c k) b first opened f s p (length s) ≡ marker_entry_at (widths_of c k) b opened s p (length s)
          unfolding entry_at
          marker_as = sym (pick_yes _ _ _ _ (eq-eqb f 2 y) refl)

          module _ (o : Deletion) (v m : ℕ) (w : r ≡ Ok ((o, v), m)) where
            passed : PassedEntry (marker_entry_at (widths_of c k) b opened s p (length s)) opened n o v m
            passed = passed_of _ opened n o v m (said_got r _ (o, v) m found w)

            pub entering_marker : Table (length c) k → Entering z c k b s 0 o m v
            entering_marker table = next table passed.entry m (marker_as ∙ passed.is) o v passed.opens passed.many

            pub marker_less : length s - m < length s - p
            marker_less =
                let x = entry_moves (widths_of c k) b s p (length s) opened passed.entry m ((entry_gives (widths_of c k) b s p (length s) first opened f).given passed.entry m (marker_as ∙ passed.is)) in
                omega (arith, x.past, x.within)

          pub marker_refused : (err : Bad) → r ≡ Err err → bad err.fault err.place ≡ z
          marker_refused err w = refused_by err (marker_as ∙ passed_bad _ opened n err.fault err.place (said_not r _ err found w))

        -- ---- a row
        module _ (y : f ≡ 2 → ⊥) (r : Reading ℕ) (found : said r ≡ entry_counted n (row_entry_at (widths_of c k) b first s p (length s))) where
          row_as : entry_at (widths_of c k) b first opened f s p (length s) ≡ row_entry_at (widths_of c k) b first s p (length s)
          unfolding entry_at
          row_as = sym (pick_no _ _ _ _ (ne_eqb f 2 y) refl)

          module _ (v m : ℕ) (w : r ≡ Ok (v, m)) where
            counts : CountedEntry (row_entry_at (widths_of c k) b first s p (length s)) n v m
            counts = counts_of_lem _ n v m (said_got r _ v m found w)

            pub entering_row : Table (length c) k → Entering z c k b s 0 opened m v
            entering_row table =
                next table counts.entry m (row_as ∙ counts.is) opened v
                (sym ((row_opens (widths_of c k) b first s p (length s) opened).given counts.entry m counts.is))
                counts.many

            pub row_less : length s - m < length s - p
            row_less =
                let o = entry_moves (widths_of c k) b s p (length s) opened counts.entry m ((entry_gives (widths_of c k) b s p (length s) first opened f).given counts.entry m (row_as ∙ counts.is)) in
                omega (arith, o.past, o.within)

          pub row_refused : (err : Bad) → r ≡ Err err → bad err.fault err.place ≡ z
          row_refused err w = refused_by err (row_as ∙ counted_bad _ n err.fault err.place (said_not r _ err found w))

pub ruleset entering = (entering_none, entering_many, entering_cut, entering_closed, entering_marker, marker_less, marker_refused, entering_row, row_less, row_refused, refl)
