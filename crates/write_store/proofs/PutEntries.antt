-- The entries of a partition stored one by one, and the end byte. Assumes nothing.
use mathlib.Core.Path.{◌≡◌, refl, sym, ap, ◌∙◌}
use mathlib.Core.List.{List, [], ◌∷◌, ◌++◌, append_assoc}
use Prim.Native.Nat.{ℕ, ◌+◌, ◌-◌, ◌≤◌, ◌<◌, ◌^◌}
use native.Mathlib.Omega.{arith}
use borrow.Author.Tests.{eq-eqb, ne_eqb}
use lib.Dec.{eqb}
use lib.ListN.{length, get_or}
use Rattle.common.specs.Choose.{pick}
use Rattle.common.specs.Got.{Got, got, on}
use Rattle.common.specs.Store.{Room, Puts}
use Rattle.common.specs.declared.times.Bases.{Bases}
use Rattle.common.proofs.Choose.{pick_yes, pick_no}
use Rattle.data_field.specs.Fields.{live}
use Rattle.data_field.specs.declared.fields.Deletion.{Deletion}
use Rattle.data_items.specs.declared.Item.{Item}
use Rattle.data_contents.specs.Contents.{Widths, widths_of, Entry, open_behind}
use Rattle.data_contents.proofs.Follows.{Parted, parted}
use Rattle.write_form.specs.Views.{EntryView, static_view, row_view, marker_view, show_entry, show_entries}
use Rattle.write_form.specs.Whole.{entry_bytes, back_behind, entries_bytes}
use Rattle.schema_check.specs.declared.records.Counts.{Counts}
use Rattle.write_accept.specs.Fields.{item_of}
use Rattle.write_accept.specs.Records.{record_at, kind_at}
use Rattle.write_accept.specs.Tests.{bad_end}
use Rattle.write_accept.specs.Entries.{taken_entry, taken_end, taken_entries}
use Rattle.write_accept.proofs.Goods.{record_gives}
use Rattle.write_accept.proofs.Unfolds.{entries_unfold, entry_moves, kind_gives}
use Rattle.common.proofs.Gives.{got_value, got_place}
use Rattle.list_call.proofs.Writing.{Writing, writing_none, writing_same, writing_end, writing_room, writing_more}
use Rattle.write_store.specs.Parts.{entry_again, entry_written, entries_written, Fitting, PutsTo, EntryThere, PutsEntry}
use Rattle.write_store.specs.declared.whole.Passed.{Passed}
use Rattle.write_store.proofs.PutRows.{entry_of_lem}
use Rattle.write_store.proofs.Entered.{entry_again_lem}

pub entries_of_lem : (b : Bases) (t : Widths) (bytes : List ℕ) (back : ℕ) (x : Got (List Entry)) (es : List Entry) (n : ℕ) → x ≡ got es n → entries_written b t bytes back x ≡ entries_bytes b t back (show_entries bytes es) ++ (1 ∷ [])
unfolding entries_written
entries_of_lem b t bytes back x es n e = rw e refl

entries_none : (b : Bases) (t : Widths) (bytes : List ℕ) (back : ℕ) → entries_bytes b t back (show_entries bytes []) ++ (1 ∷ []) ≡ (1 ∷ []) ++ []
unfolding entries_bytes
entries_none b t bytes back = refl

entries_next : (b : Bases) (t : Widths) (bytes : List ℕ) (back : ℕ) (e : Entry) (es : List Entry) → entries_bytes b t back (show_entries bytes (e ∷ es)) ++ (1 ∷ [])
    ≡ entry_bytes b t back (show_entry bytes e) ++ (entries_bytes b t (back_behind back (length (entry_bytes b t back (show_entry bytes e))) (show_entry bytes e)) (show_entries bytes es) ++ (1 ∷ []))
unfolding entries_bytes
entries_next b t bytes back e es = append_assoc (entry_bytes b t back (show_entry bytes e)) _ (1 ∷ [])

back_most : (back n : ℕ) (e : EntryView) → back_behind back n e ≤ back + n
unfolding back_behind
back_most back n (static_view r) = omega arith
back_most back n (row_view vs r) = omega arith
back_most back n (marker_view m) = omega arith

-- the entries from p on, and their bytes; x is what all of them are, and w their bytes
pub record Storing (x : Got (List Entry)) (w : List ℕ) (c : List ℕ) (k : Counts) (b : Bases) (bytes s d₀ d : List ℕ) (to p out back : ℕ) : Type 0 where
  pub first : ℕ
  pub opened : Deletion
  pub entries : List Entry
  pub end : ℕ
  pub is : taken_entries (widths_of c k) b bytes first opened s p (length s) ≡ got entries end
  pub ends : (es : List Entry) (n : ℕ) → x ≡ got es n → end ≡ n
  pub writing : Writing w d₀ d to out (entries_bytes b (widths_of c k) back (show_entries bytes entries) ++ (1 ∷ []))
  pub small : length d₀ ≤ 1073741824
  pub least : back ≤ out

module _ (c : List ℕ) (k : Counts) (b : Bases) (bytes s : List ℕ) (at : ℕ) (start : ℕ) (d : List ℕ) (to : ℕ) where
  pub storing_none : Fitting (taken_entries (widths_of c k) b bytes 1 live s at (length s)) (entries_written b (widths_of c k) bytes start (taken_entries (widths_of c k) b bytes 1 live s at (length s))) d to → start ≤ to
      → Storing (taken_entries (widths_of c k) b bytes 1 live s at (length s)) (entries_written b (widths_of c k) bytes start (taken_entries (widths_of c k) b bytes 1 live s at (length s))) c k b bytes s d d to at to start
  storing_none f l =
      let e = entries_of_lem b (widths_of c k) bytes start (taken_entries (widths_of c k) b bytes 1 live s at (length s)) f.value f.place f.is in
      record {
        first = 1;
        opened = live;
        entries = f.value;
        end = f.place;
        is = f.is;
        ends = λ es n g. got_place (sym f.is ∙ g);
        writing = rw e (writing_none (entries_bytes b (widths_of c k) start (show_entries bytes f.value) ++ (1 ∷ [])) d to (rw e at f.room));
        small = f.small;
        least = l;
      }

module _ (x : Got (List Entry)) (w : List ℕ) (c : List ℕ) (k : Counts) (b : Bases) (bytes s d₀ d : List ℕ) (to p out back : ℕ) (i : Storing x w c k b bytes s d₀ d to p out back) where
  abbrev T : Widths
  T = widths_of c k

  pub storing_same : length d ≡ length d₀
  storing_same = writing_same _ d₀ d to out _ i.writing

  abbrev More : ℕ → Got (List Entry)
  More f = on (taken_entry T b bytes i.first i.opened f s p (length s)) (λ e m. on (taken_entries T b bytes 0 (open_behind i.opened e) s m (length s)) (λ es q. got (e ∷ es) q))

  unfolds : on (kind_at s p (length s)) (λ f n. pick (eqb f 7) (taken_end b i.opened s p (length s)) (More f)) ≡ got i.entries i.end
  unfolds = sym (entries_unfold b bytes s (length s) T i.first i.opened p) ∙ i.is

  kinded : Parted (kind_at s p (length s)) (λ f n. pick (eqb f 7) (taken_end b i.opened s p (length s)) (More f)) i.entries i.end
  kinded = parted _ _ i.entries i.end unfolds

  kind_is : (kinded.value ≡ get_or s p 0) × ((kinded.place ≡ p) × (p + 64 ≤ length s))
  kind_is = (kind_gives b bytes s (length s) T p).given kinded.value kinded.place kinded.is

  pub storing_record : p + 64 ≤ length s
  storing_record = kind_is.1.1

  pub storing_index : p < length s
  storing_index = omega (arith, storing_record)

  pub storing_place : length s < 2 ^ 64 → p + 64 < 18446744073709551616
  storing_place l = omega (arith, storing_record)

  here : pick (eqb (get_or s p 0) 7) (taken_end b i.opened s p (length s)) (More (get_or s p 0)) ≡ got i.entries i.end
  here = rw kind_is.0 at kinded.rest

  module _ (h : get_or s p 0 ≡ 7) where
    closed : taken_end b i.opened s p (length s) ≡ got i.entries i.end
    closed = pick_yes _ _ _ _ (eq-eqb _ _ h) refl ∙ here

    last : Parted (record_at b (bad_end i.opened) s p (length s)) (λ (y : Item) n. got [] n) i.entries i.end
    unfolding taken_end
    last = parted _ _ i.entries i.end closed

    no_more : [] ≡ i.entries
    no_more = got_value last.rest

    ended : i.end ≡ p + 64
    ended = sym (got_place last.rest) ∙ ((record_gives b (bad_end i.opened) s p (length s)).given last.value last.place last.is).next

    parts : entries_bytes b T back (show_entries bytes i.entries) ++ (1 ∷ []) ≡ (1 ∷ []) ++ []
    parts = ap (λ (y : List Entry). entries_bytes b T back (show_entries bytes y) ++ (1 ∷ [])) (sym no_more) ∙ entries_none b T bytes back

    pub storing_end_room : Room d out (1 ∷ [])
    storing_end_room = writing_room _ d₀ d to out _ i.writing (1 ∷ []) [] parts

    pub storing_end : (d' : List ℕ) (m : ℕ) → Puts d d' out (1 ∷ []) m → PutsTo x w d₀ d' to (record { next = p + 64; out = m })
    storing_end d' m v = record {
      next = λ es n e. sym ended ∙ i.ends es n e;
      puts = writing_end _ d₀ d' to m [] (writing_more _ d₀ d to out _ i.writing (1 ∷ []) [] parts d' m v) refl;
    }

    pub storing_end_same : (d' : List ℕ) (m : ℕ) → Puts d d' out (1 ∷ []) m → length d' ≡ length d₀
    storing_end_same d' m v = writing_same _ d₀ d' to m [] (writing_more _ d₀ d to out _ i.writing (1 ∷ []) [] parts d' m v)

  module _ (h : get_or s p 0 ≡ 7 → ⊥) where
    one : Parted (taken_entry T b bytes i.first i.opened (get_or s p 0) s p (length s)) (λ e m. on (taken_entries T b bytes 0 (open_behind i.opened e) s m (length s)) (λ es q. got (e ∷ es) q)) i.entries i.end
    one = parted _ _ i.entries i.end (pick_no _ _ _ _ (ne_eqb _ _ h) refl ∙ here)

    rest : Parted (taken_entries T b bytes 0 (open_behind i.opened one.value) s one.place (length s)) (λ es q. got (one.value ∷ es) q) i.entries i.end
    rest = parted _ _ i.entries i.end one.rest

    again : (entry_again T b bytes s p (length s) ≡ got one.value one.place) × ((p + 64 ≤ length s) × ((get_or s p 0 ≡ 2 → ⊥) → (get_or s p 0 ≡ 3 → ⊥) → (item_of s p).column ≤ 7))
    again = (entry_again_lem T b bytes s p (length s) i.first i.opened).given one.value one.place one.is

    pub storing_there : EntryThere s p
    storing_there = record { within = again.1.0; kind = again.1.1 }

    abbrev Next : ℕ
    Next = back_behind back (length (entry_bytes b T back (show_entry bytes one.value))) (show_entry bytes one.value)

    both : entries_bytes b T back (show_entries bytes i.entries) ++ (1 ∷ []) ≡ entry_bytes b T back (show_entry bytes one.value) ++ (entries_bytes b T Next (show_entries bytes rest.value) ++ (1 ∷ []))
    both = ap (λ (y : List Entry). entries_bytes b T back (show_entries bytes y) ++ (1 ∷ [])) (sym (got_value rest.rest)) ∙ entries_next b T bytes back one.value rest.value

    bytes_are : entry_written b T bytes back (entry_again T b bytes s p (length s)) ≡ entry_bytes b T back (show_entry bytes one.value)
    bytes_are = entry_of_lem b T bytes back _ one.value one.place again.0

    pub storing_fits : Fitting (entry_again T b bytes s p (length s)) (entry_written b T bytes back (entry_again T b bytes s p (length s))) d out
    storing_fits = record {
      value = one.value;
      place = one.place;
      is = again.0;
      room = rw bytes_are (writing_room _ d₀ d to out _ i.writing _ _ both);
      small = omega (arith, storing_same, i.small);
    }

    pub storing_least : back ≤ out
    storing_least = i.least

    module _ (d' : List ℕ) (r : Passed) (v : PutsEntry b T bytes back (entry_again T b bytes s p (length s)) d d' out r) where
      next_is : r.next ≡ one.place
      next_is = v.next one.value one.place again.0

      pub storing_less : (m : ℕ) → m ≡ r.next → length s - m < length s - p
      storing_less m e =
          let g = (entry_moves b bytes s (length s) T i.first i.opened (get_or s p 0) p).given one.value one.place one.is in
          omega (arith, e, next_is, g.0, g.1)

      back_is : r.back ≡ Next
      back_is = v.behind one.value one.place again.0

      puts : Puts d d' out (entry_bytes b T back (show_entry bytes one.value)) r.out
      puts = rw (← bytes_are) v.puts

      pub storing_more : (m n z : ℕ) → m ≡ r.next → n ≡ r.out → z ≡ r.back → Storing x w c k b bytes s d₀ d' to m n z
      storing_more m n z e f g = record {
        first = 0;
        opened = open_behind i.opened one.value;
        entries = rest.value;
        end = i.end;
        is = rw (e ∙ next_is) (rest.is ∙ ap (got rest.value) (got_place rest.rest));
        ends = i.ends;
        writing = rw (f, g ∙ back_is) (writing_more _ d₀ d to out _ i.writing _ _ both d' r.out puts);
        small = i.small;
        least = omega (arith, f, g, back_is, puts.next, i.least, back_most back (length (entry_bytes b T back (show_entry bytes one.value))) (show_entry bytes one.value));
      }

pub ruleset storing = (storing_none, storing_same, storing_record, storing_index, storing_place, storing_end_room, storing_end, storing_end_same, storing_there, storing_fits, storing_least, storing_less, storing_more, refl)
