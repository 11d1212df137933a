-- The entries of a partition stored one by one. Assumes nothing.
use Rattle.common.specs.declared.reading.Bad.{Bad}
use Rattle.std.proofs.Common.{Err, Ok}
use mathlib.Core.Path.{◌≡◌, refl, sym, ap, ◌∙◌}
use mathlib.Core.Bool.{Bool, true, false}
use mathlib.Core.List.{List, [], ◌∷◌, ◌++◌}
use Prim.Native.Nat.{ℕ, ◌+◌, ◌-◌, ◌<◌}
use native.Mathlib.Omega.{arith}
use borrow.Author.Tests.{eq-eqb, ne_eqb}
use lib.Dec.{ltb, leb, eqb}
use lib.ListN.{length}
use Rattle.common.specs.Choose.{pick}
use Rattle.common.specs.Got.{Got, got, bad, on, Reading, said}
use Rattle.common.specs.Store.{Room, Puts}
use Rattle.common.specs.declared.refusal.Fault.TheVariants.{OutOfTurn}
use Rattle.common.specs.declared.times.Bases.{Bases}
use Rattle.common.proofs.Choose.{pick_yes, pick_no}
use Rattle.common.proofs.Gives.{Gives, gives_got, gives_bad, gives_pick}
use Rattle.data_field.specs.Fields.{live, byte_at}
use Rattle.data_field.specs.declared.fields.Deletion.{Deletion}
use Rattle.schema_check.specs.declared.records.Counts.{Counts}
use Rattle.data_items.specs.Items.{end_item}
use Rattle.data_items.specs.declared.Item.{Item}
use Rattle.data_contents.specs.Contents.{widths_of, Entry, open_behind, row_entry_at, marker_entry_at, entry_at, closed_at, entries_at, entry_listed, entries_listed}
use Rattle.data_contents.proofs.Follows.{Parted, parted}
use Rattle.data_contents.proofs.Gives.{entry_gives, entry_moves}
use Rattle.data_contents.proofs.Unfolds.{entries_unfold}
use Rattle.list_count.proofs.Entries.{row_opens}
use Rattle.list_count.proofs.Follows.{on_got, on_bad}
use Rattle.list_call.specs.Records.{record_of, records_of}
use Rattle.list_call.specs.Parts.{entry_of, entries_of, Fitting, PutsEntry, PutsMarker, PutsEntries}
use Rattle.list_call.specs.declared.fills.Behind.{Behind}
use Rattle.list_call.specs.declared.fills.Open.{Open}
use Rattle.common.proofs.Gives.{never, got_value, got_place}
use Rattle.list_call.proofs.PutRows.{records_both, entry_of_lem}
use Rattle.list_call.proofs.Writing.{Writing, writing_none, writing_same, writing_end, writing_room, writing_more}
use Rattle.common.proofs.Said.{said_got, said_not}

byte_next : (s : List ℕ) (at end : ℕ) → Gives (byte_at s at end) (λ f n. n ≡ at + 1)
unfolding byte_at
byte_next s at end = gives_pick (ltb (length s) end) (λ e. gives_bad _ _) (λ e. gives_pick (leb end at) (λ f. gives_bad _ _) (λ f. gives_got _ _ refl))

pub entries_of_lem : (x : Got (List Entry)) (es : List Entry) (n : ℕ) → x ≡ got es n → entries_of x ≡ entries_listed es n
unfolding entries_of
entries_of_lem x es n d = rw d refl

closed_end : (opened : Deletion) (p : ℕ) (t : Bool) (es : List Entry) (n : ℕ) → pick t (got [] p) (bad OutOfTurn p) ≡ got es n → got [] p ≡ got es n
unfolding pick
closed_end opened p true es n e = e
closed_end opened p false es n e = never e

closed_as : (opened : Deletion) (p : ℕ) (es : List Entry) (n : ℕ) → closed_at opened p ≡ got es n → got [] p ≡ got es n
unfolding closed_at
closed_as opened p es n e = closed_end opened p (eqb opened.deleted 0) es n e

-- the entries from p on, and their records; x is what all of them are
pub record Storing (x : Got (List Entry)) (c : List ℕ) (k : Counts) (b : Bases) (s d₀ d : List ℕ) (to first : ℕ) (opened : Deletion) (p out : ℕ) : Type 0 where
  pub entries : List Entry
  pub end : ℕ
  pub is : entries_at (widths_of c k) b first opened s p (length s) ≡ got entries end
  pub ends : (es : List Entry) (n : ℕ) → x ≡ got es n → end ≡ n
  pub writing : Writing (records_of (entries_of x)) d₀ d to out (records_of (entries_listed entries end))

module _ (c : List ℕ) (k : Counts) (b : Bases) (s : List ℕ) (at : ℕ) (d : List ℕ) (to : ℕ) where
  pub storing_none : Fitting (entries_at (widths_of c k) b 1 live s at (length s)) (entries_of (entries_at (widths_of c k) b 1 live s at (length s))) d to
      → Storing (entries_at (widths_of c k) b 1 live s at (length s)) c k b s d d to 1 live at to
  storing_none f =
      let e = entries_of_lem (entries_at (widths_of c k) b 1 live s at (length s)) f.value f.place f.is in
      record {
        entries = f.value;
        end = f.place;
        is = f.is;
        ends = λ es n g. got_place (sym f.is ∙ g);
        writing = rw e (writing_none (records_of (entries_listed f.value f.place)) d to (rw e at f.room));
      }

module _ (x : Got (List Entry)) (c : List ℕ) (k : Counts) (b : Bases) (s d₀ d : List ℕ) (to first : ℕ) (opened : Deletion) (p out : ℕ) (i : Storing x c k b s d₀ d to first opened p out) where
  pub storing_same : length d ≡ length d₀
  storing_same = writing_same _ d₀ d to out _ i.writing

  module _ (q : Reading ℕ) (told : said q ≡ byte_at s p (length s)) where
    pub storing_never : (err : Bad) → q ≡ Err err → (r : Behind) → PutsEntries x d₀ d to r
    storing_never err e r = never (sym (entries_unfold (widths_of c k) b s (length s) first opened p ∙ on_bad _ err.fault err.place _ (said_not q _ err told e)) ∙ i.is)

    module _ (f j : ℕ) (g : q ≡ Ok (f, j)) where
      abbrev More : Got (List Entry)
      More = on (entry_at (widths_of c k) b first opened f s p (length s)) (λ e m. on (entries_at (widths_of c k) b 0 (open_behind opened e) s m (length s)) (λ es p. got (e ∷ es) p))

      here : entries_at (widths_of c k) b first opened s p (length s) ≡ pick (eqb f 1) (closed_at opened p) More
      here = entries_unfold (widths_of c k) b s (length s) first opened p ∙ on_got _ f j _ (said_got q _ f j told g)

      module _ (h : f ≡ 1) (it : Item) (n : it ≡ end_item p) where
        last : got [] p ≡ got i.entries i.end
        last = closed_as opened p i.entries i.end (sym (here ∙ sym (pick_yes _ _ _ _ (eq-eqb f 1 h) refl)) ∙ i.is)

        records : records_of (entries_listed i.entries i.end) ≡ record_of it ++ []
        unfolding records_of
        records = ap (λ (y : List Entry). records_of (entries_listed y i.end)) (sym (got_value last)) ∙ ap (λ (y : ℕ). record_of (end_item y) ++ []) (sym (got_place last)) ∙ ap (λ (y : Item). record_of y ++ []) (sym n)

        pub storing_end_room : Room d out (record_of it)
        storing_end_room = writing_room _ d₀ d to out _ i.writing (record_of it) [] records

        pub storing_end : (d' : List ℕ) (m : ℕ) → Puts d d' out (record_of it) m → PutsEntries x d₀ d' to (record { next = j; out = m })
        storing_end d' m w = record {
          next = λ es y e. (byte_next s p (length s)).given f j (said_got q _ f j told g) ∙ ap (λ (v : ℕ). v + 1) (got_place last ∙ i.ends es y e);
          puts = writing_end _ d₀ d' to m [] (writing_more _ d₀ d to out _ i.writing (record_of it) [] records d' m w) refl;
        }

        pub storing_end_same : (d' : List ℕ) (m : ℕ) → Puts d d' out (record_of it) m → length d' ≡ length d₀
        storing_end_same d' m w = writing_same _ d₀ d' to m [] (writing_more _ d₀ d to out _ i.writing (record_of it) [] records d' m w)

      module _ (h : f ≡ 1 → ⊥) where
        other : More ≡ got i.entries i.end
        other = sym (here ∙ sym (pick_no _ _ _ _ (ne_eqb f 1 h) refl)) ∙ i.is

        one : Parted (entry_at (widths_of c k) b first opened f s p (length s)) (λ e m. on (entries_at (widths_of c k) b 0 (open_behind opened e) s m (length s)) (λ es p. got (e ∷ es) p)) i.entries i.end
        one = parted _ _ i.entries i.end other

        rest : Parted (entries_at (widths_of c k) b 0 (open_behind opened one.value) s one.place (length s)) (λ es p. got (one.value ∷ es) p) i.entries i.end
        rest = parted _ _ i.entries i.end one.rest

        parts : records_of (entries_listed i.entries i.end) ≡ records_of (entry_listed one.value) ++ records_of (entries_listed rest.value i.end)
        parts = ap (λ (y : List Entry). records_of (entries_listed y i.end)) (sym (got_value rest.rest)) ∙ records_both (entry_listed one.value) (entries_listed rest.value i.end)

        less : length s - one.place < length s - p
        less =
            let o = entry_moves (widths_of c k) b s p (length s) opened one.value one.place ((entry_gives (widths_of c k) b s p (length s) first opened f).given one.value one.place one.is) in
            omega (arith, o.past, o.within)

        -- behind an entry whose records were stored
        next : (o : Deletion) (m : ℕ) (d' : List ℕ) (n : ℕ) → o ≡ open_behind opened one.value → m ≡ one.place → Puts d d' out (records_of (entry_listed one.value)) n → Storing x c k b s d₀ d' to 0 o m n
        next o m d' n e y w = record {
          entries = rest.value;
          end = i.end;
          is = rw (e, y) (rest.is ∙ ap (got rest.value) (got_place rest.rest));
          ends = i.ends;
          writing = writing_more _ d₀ d to out _ i.writing _ _ parts d' n w;
        }

        module _ (y : f ≡ 2) where
          marker_as : marker_entry_at (widths_of c k) b opened s p (length s) ≡ got one.value one.place
          unfolding entry_at
          marker_as = pick_yes _ _ _ _ (eq-eqb f 2 y) refl ∙ one.is

          marker_items : entry_of (marker_entry_at (widths_of c k) b opened s p (length s)) ≡ entry_listed one.value
          marker_items = entry_of_lem _ one.value one.place marker_as

          pub storing_marker_fits : Fitting (marker_entry_at (widths_of c k) b opened s p (length s)) (entry_of (marker_entry_at (widths_of c k) b opened s p (length s))) d out
          storing_marker_fits = record { value = one.value; place = one.place; is = marker_as; room = rw marker_items (writing_room _ d₀ d to out _ i.writing _ _ parts) }

          module _ (d' : List ℕ) (r : Open) (w : PutsMarker (marker_entry_at (widths_of c k) b opened s p (length s)) opened d d' out r) where
            pub storing_marker : (o : Deletion) (m n : ℕ) → o ≡ r.opened → m ≡ r.next → n ≡ r.out → Storing x c k b s d₀ d' to 0 o m n
            storing_marker o m n e u v = next o m d' n (e ∙ w.opens one.value one.place marker_as) (u ∙ w.next one.value one.place marker_as) (rw (v, ← marker_items) w.puts)

            pub storing_marker_less : (m : ℕ) → m ≡ r.next → length s - m < length s - p
            storing_marker_less m e = rw (e ∙ w.next one.value one.place marker_as) less

        module _ (y : f ≡ 2 → ⊥) where
          row_is : row_entry_at (widths_of c k) b first s p (length s) ≡ got one.value one.place
          unfolding entry_at
          row_is = pick_no _ _ _ _ (ne_eqb f 2 y) refl ∙ one.is

          row_items : entry_of (row_entry_at (widths_of c k) b first s p (length s)) ≡ entry_listed one.value
          row_items = entry_of_lem _ one.value one.place row_is

          pub storing_row_fits : Fitting (row_entry_at (widths_of c k) b first s p (length s)) (entry_of (row_entry_at (widths_of c k) b first s p (length s))) d out
          storing_row_fits = record { value = one.value; place = one.place; is = row_is; room = rw row_items (writing_room _ d₀ d to out _ i.writing _ _ parts) }

          module _ (d' : List ℕ) (r : Behind) (w : PutsEntry (row_entry_at (widths_of c k) b first s p (length s)) d d' out r) where
            pub storing_row : (m n : ℕ) → m ≡ r.next → n ≡ r.out → Storing x c k b s d₀ d' to 0 opened m n
            storing_row m n u v = next opened m d' n (sym ((row_opens (widths_of c k) b first s p (length s) opened).given one.value one.place row_is)) (u ∙ w.next one.value one.place row_is) (rw (v, ← row_items) w.puts)

            pub storing_row_less : (m : ℕ) → m ≡ r.next → length s - m < length s - p
            storing_row_less m e = rw (e ∙ w.next one.value one.place row_is) less

pub ruleset storing = (storing_none, storing_same, storing_never, storing_end_room, storing_end, storing_end_same, storing_marker_fits, storing_marker, storing_marker_less, storing_row_fits, storing_row, storing_row_less, refl)
