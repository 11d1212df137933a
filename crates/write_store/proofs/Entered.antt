-- An entry that is taken is the one that is read again; how it is stored. Assumes nothing.
use mathlib.Core.Path.{◌≡◌, refl, sym, ap, ◌∙◌}
use mathlib.Core.Bool.{false}
use mathlib.Core.List.{List}
use Prim.Native.Nat.{ℕ, ◌+◌, ◌-◌, ◌≤◌, ◌<◌, ◌^◌}
use native.Mathlib.Omega.{arith}
use borrow.Author.Tests.{eq-eqb, ne_eqb, eqb-true, ltb-false}
use lib.Dec.{ltb, eqb}
use lib.ListN.{length, get_or}
use Rattle.common.specs.Got.{Got, got, bad}
use Rattle.common.specs.declared.times.Bases.{Bases}
use Rattle.common.proofs.Choose.{pick_yes, pick_no}
use Rattle.common.proofs.Gives.{Gives, gives_got, gives_bad, gives_on, gives_pick}
use Rattle.data_field.specs.declared.fields.Deletion.{Deletion}
use Rattle.data_turns.specs.Turns.{bad_kind}
use Rattle.data_items.specs.declared.Item.{Item}
use Rattle.data_contents.specs.Contents.{Widths, widths_of, Entry}
use Rattle.write_form.specs.Views.{show_entry}
use Rattle.write_form.specs.Whole.{entry_bytes, back_behind}
use Rattle.schema_check.specs.declared.records.Counts.{Counts}
use Rattle.write_accept.specs.Fields.{item_of}
use Rattle.write_accept.specs.Tests.{unlike, bad_row, bad_static, bad_marker}
use Rattle.write_accept.specs.Entries.{taken_static, taken_row, taken_marker, taken_entry}
use Rattle.write_accept.proofs.Goods.{not_first, not_second, record_gives}
use Rattle.common.proofs.Gives.{got_value}
use Rattle.write_store.specs.Parts.{static_again, row_again, marker_again, entry_again, entry_written, Fitting, PutsTo, EntryThere, PutsEntry}
use Rattle.write_store.specs.declared.entries.Behind.{Behind}
use Rattle.write_store.proofs.PutRows.{entry_of_lem}

-- ---- what is taken is what is read again
marker_kind : (opened : Deletion) (i : Item) → bad_marker opened i ≡ false → i.column ≤ 7
unfolding bad_marker bad_kind
marker_kind opened i e =
    let f = not_first (bad_kind i.column) _ (not_second (unlike i.flags 4) _ (not_second (unlike i.kind 4) _ e)) in
    omega (arith, ltb-false 7 i.column (not_first (ltb 7 i.column) _ f))

module _ (t : Widths) (b : Bases) (bytes s : List ℕ) (at end : ℕ) where
  static_again_lem : (first : ℕ) → Gives (taken_static t b bytes first s at end) (λ e n. (static_again t b bytes s at end ≡ got e n) × (at + 64 ≤ end))
  unfolding taken_static static_again
  static_again_lem first = gives_on _ (record_gives b (bad_static first (length t.statics)) s at end) (λ i m g. record { given = λ e n d. (rw (g.is, g.next) at d, omega (arith, g.next, g.within)) })

  row_again_lem : Gives (taken_row t b bytes s at end) (λ e n. (row_again t b bytes s at end ≡ got e n) × (at + 64 ≤ end))
  unfolding taken_row row_again
  row_again_lem = gives_on _ (record_gives b (bad_row 3) s at end) (λ i m g. record { given = λ e n d. (rw (g.is, g.next) at d, omega (arith, g.next, g.within)) })

  marker_again_lem : (opened : Deletion) → Gives (taken_marker t b bytes opened s at end) (λ e n. (marker_again t b bytes s at end ≡ got e n) × ((at + 64 ≤ end) × ((item_of s at).column ≤ 7)))
  unfolding taken_marker marker_again
  marker_again_lem opened =
      gives_on _ (record_gives b (bad_marker opened) s at end) (λ i m g.
      record { given = λ e n d. (rw (g.is, g.next) at d, (omega (arith, g.next, g.within), rw g.is at (marker_kind opened i g.right))) })

  -- what an entry that is taken is
  abbrev Again : Entry → ℕ → Type 0
  Again e n = (entry_again t b bytes s at end ≡ got e n) × ((at + 64 ≤ end) × ((get_or s at 0 ≡ 2 → ⊥) → (get_or s at 0 ≡ 3 → ⊥) → (item_of s at).column ≤ 7))

  pub entry_again_lem : (first : ℕ) (opened : Deletion) → Gives (taken_entry t b bytes first opened (get_or s at 0) s at end) Again
  unfolding taken_entry entry_again
  entry_again_lem first opened =
      gives_pick (eqb (get_or s at 0) 2)
      (λ e. record { given = λ x n d. let g = (static_again_lem first).given x n d in (sym (pick_yes _ _ _ _ e refl) ∙ g.0, (g.1, λ y z. absurd (y (eqb-true _ _ e)))) })
      (λ e.
      gives_pick (eqb (get_or s at 0) 3)
      (λ f. record { given = λ x n d. let g = row_again_lem.given x n d in (sym (pick_no _ _ _ _ e refl) ∙ sym (pick_yes _ _ _ _ f refl) ∙ g.0, (g.1, λ y z. absurd (z (eqb-true _ _ f)))) })
      (λ f.
      gives_pick (eqb (get_or s at 0) 4)
      (λ h. record { given = λ x n d. let g = (marker_again_lem opened).given x n d in (sym (pick_no _ _ _ _ e refl) ∙ sym (pick_no _ _ _ _ f refl) ∙ g.0, (g.1.0, λ y z. g.1.1)) })
      (λ h. gives_bad _ _)))

-- ---- how it is stored
static_back : (b : Bases) (t : Widths) (bytes : List ℕ) (back other : ℕ) (x : Got Entry) → Gives x (λ e n. entry_bytes b t back (show_entry bytes e) ≡ entry_bytes b t other (show_entry bytes e)) → entry_written b t bytes back x ≡ entry_written b t bytes other x
unfolding entry_written
static_back b t bytes back other (got e n) h = h.given e n refl
static_back b t bytes back other (bad f p) h = refl

module _ (t : Widths) (b : Bases) (bytes s : List ℕ) (at end : ℕ) where
  -- the bytes of a static row do not tell what is before it
  static_same : (back other : ℕ) → Gives (static_again t b bytes s at end) (λ e n. entry_bytes b t back (show_entry bytes e) ≡ entry_bytes b t other (show_entry bytes e))
  unfolding static_again entry_bytes
  static_same back other = gives_on _ (record { given = λ a n e. e }) (λ cs n e. gives_got _ _ refl)

  static_next : (back z : ℕ) → Gives (static_again t b bytes s at end) (λ e n. back_behind back z (show_entry bytes e) ≡ back + z)
  unfolding static_again back_behind
  static_next back z = gives_on _ (record { given = λ a n e. e }) (λ cs n e. gives_got _ _ refl)

  row_next : (back z : ℕ) → Gives (row_again t b bytes s at end) (λ e n. back_behind back z (show_entry bytes e) ≡ z)
  unfolding row_again back_behind
  row_next back z = gives_on _ (record { given = λ a n e. e }) (λ vs m d. gives_on _ (record { given = λ a n e. e }) (λ cs n e. gives_got _ _ refl))

  marker_next : (back z : ℕ) → Gives (marker_again t b bytes s at end) (λ e n. back_behind back z (show_entry bytes e) ≡ z)
  unfolding marker_again back_behind
  marker_next back z = gives_on _ (record { given = λ a n e. e }) (λ vs n e. gives_got _ _ refl)

module _ (c : List ℕ) (k : Counts) (b : Bases) (back : ℕ) (bytes s : List ℕ) (at : ℕ) (d : List ℕ) (to : ℕ) (there : EntryThere s at)
    (fit : Fitting (entry_again (widths_of c k) b bytes s at (length s)) (entry_written b (widths_of c k) bytes back (entry_again (widths_of c k) b bytes s at (length s))) d to) where
  abbrev T : Widths
  T = widths_of c k

  abbrev Ee : Got Entry
  Ee = entry_again T b bytes s at (length s)

  pub entry_index : at < length s
  entry_index = omega (arith, there.within)

  pub entry_within : at + 64 ≤ length s
  entry_within = there.within

  -- a part of the entry that is the whole of it
  module _ (x : Got Entry) (e : Ee ≡ x) where
    fits : Fitting x (entry_written b T bytes back x) d to
    fits = record { value = fit.value; place = fit.place; is = sym e ∙ fit.is; room = rw e at fit.room; small = fit.small }

    -- its length is the difference of the places
    module _ (d' : List ℕ) (r : Behind) (p : PutsTo x (entry_written b T bytes back x) d d' to r) where
      out_is : r.out ≡ to + length (entry_bytes b T back (show_entry bytes fit.value))
      out_is = p.puts.next ∙ ap (λ (y : List ℕ). to + length y) (entry_of_lem b T bytes back x fit.value fit.place (sym e ∙ fit.is))

      out_least : to ≤ r.out
      out_least = omega (arith, out_is)

      stored : (z : ℕ) → ((y : Entry) (n : ℕ) → x ≡ got y n → z ≡ back_behind back (r.out - to) (show_entry bytes y)) → PutsEntry b T bytes back Ee d d' to (record { next = r.next; out = r.out; back = z })
      stored z f = record {
        next = λ y n g. p.next y n (sym e ∙ g);
        behind = λ y n g.
            let u : fit.value ≡ y = got_value (sym fit.is ∙ g) in
            let v : r.out - to ≡ length (entry_bytes b T back (show_entry bytes y)) = rw u at (let o : r.out - to ≡ length (entry_bytes b T back (show_entry bytes fit.value)) = omega (arith, out_is) in o) in
            f y n (sym e ∙ g) ∙ ap (λ (w : ℕ). back_behind back w (show_entry bytes y)) v;
        puts = rw e p.puts;
      }

  module _ (h : get_or s at 0 ≡ 2) where
    static_is : Ee ≡ static_again T b bytes s at (length s)
    unfolding entry_again
    static_is = sym (pick_yes _ _ _ _ (eq-eqb _ _ h) refl)

    zero_back : entry_written b T bytes back (static_again T b bytes s at (length s)) ≡ entry_written b T bytes 0 (static_again T b bytes s at (length s))
    zero_back = static_back b T bytes back 0 _ (static_same T b bytes s at (length s) back 0)

    pub entry_static : Fitting (static_again T b bytes s at (length s)) (entry_written b T bytes 0 (static_again T b bytes s at (length s))) d to
    entry_static = rw (← zero_back) (fits (static_again T b bytes s at (length s)) static_is)

    module _ (d' : List ℕ) (r : Behind) (p : PutsTo (static_again T b bytes s at (length s)) (entry_written b T bytes 0 (static_again T b bytes s at (length s))) d d' to r) where
      whole : PutsTo (static_again T b bytes s at (length s)) (entry_written b T bytes back (static_again T b bytes s at (length s))) d d' to r
      whole = rw zero_back p

      pub entry_static_least : to ≤ r.out
      entry_static_least = out_least (static_again T b bytes s at (length s)) static_is d' r whole

      pub entry_static_sum : length d < 2 ^ 64 → back ≤ to → back + (r.out - to) < 18446744073709551616
      entry_static_sum l m = omega (arith, whole.puts.next, (fits (static_again T b bytes s at (length s)) static_is).room.fits)

      pub entry_static_puts : PutsEntry b T bytes back Ee d d' to (record { next = r.next; out = r.out; back = back + (r.out - to) })
      entry_static_puts = stored (static_again T b bytes s at (length s)) static_is d' r whole (back + (r.out - to)) (λ y n g. sym ((static_next T b bytes s at (length s) back (r.out - to)).given y n g))

  module _ (h : get_or s at 0 ≡ 2 → ⊥) where
    module _ (j : get_or s at 0 ≡ 3) where
      row_is : Ee ≡ row_again T b bytes s at (length s)
      unfolding entry_again
      row_is = sym (pick_no _ _ _ _ (ne_eqb _ _ h) refl) ∙ sym (pick_yes _ _ _ _ (eq-eqb _ _ j) refl)

      pub entry_row : Fitting (row_again T b bytes s at (length s)) (entry_written b T bytes back (row_again T b bytes s at (length s))) d to
      entry_row = fits (row_again T b bytes s at (length s)) row_is

      module _ (d' : List ℕ) (r : Behind) (p : PutsTo (row_again T b bytes s at (length s)) (entry_written b T bytes back (row_again T b bytes s at (length s))) d d' to r) where
        pub entry_row_least : to ≤ r.out
        entry_row_least = out_least (row_again T b bytes s at (length s)) row_is d' r p

        pub entry_row_puts : PutsEntry b T bytes back Ee d d' to (record { next = r.next; out = r.out; back = r.out - to })
        entry_row_puts = stored (row_again T b bytes s at (length s)) row_is d' r p (r.out - to) (λ y n g. sym ((row_next T b bytes s at (length s) back (r.out - to)).given y n g))

    module _ (j : get_or s at 0 ≡ 3 → ⊥) where
      marker_is : Ee ≡ marker_again T b bytes s at (length s)
      unfolding entry_again
      marker_is = sym (pick_no _ _ _ _ (ne_eqb _ _ h) refl) ∙ sym (pick_no _ _ _ _ (ne_eqb _ _ j) refl)

      pub entry_kind : (item_of s at).column ≤ 7
      entry_kind = there.kind h j

      pub entry_marker : Fitting (marker_again T b bytes s at (length s)) (entry_written b T bytes back (marker_again T b bytes s at (length s))) d to
      entry_marker = fits (marker_again T b bytes s at (length s)) marker_is

      module _ (d' : List ℕ) (r : Behind) (p : PutsTo (marker_again T b bytes s at (length s)) (entry_written b T bytes back (marker_again T b bytes s at (length s))) d d' to r) where
        pub entry_marker_least : to ≤ r.out
        entry_marker_least = out_least (marker_again T b bytes s at (length s)) marker_is d' r p

        pub entry_marker_puts : PutsEntry b T bytes back Ee d d' to (record { next = r.next; out = r.out; back = r.out - to })
        entry_marker_puts = stored (marker_again T b bytes s at (length s)) marker_is d' r p (r.out - to) (λ y n g. sym ((marker_next T b bytes s at (length s) back (r.out - to)).given y n g))

pub ruleset entering = (entry_index, entry_within, entry_static, entry_static_least, entry_static_sum, entry_static_puts, entry_row, entry_row_least, entry_row_puts, entry_kind, entry_marker, entry_marker_least, entry_marker_puts)
