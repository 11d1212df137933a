-- The partitions of a record table stored one by one. Assumes nothing.
use mathlib.Core.Path.{◌≡◌, refl, sym, ap, ◌∙◌}
use mathlib.Core.List.{List, [], ◌∷◌, ◌++◌}
use Prim.Native.Nat.{ℕ, ◌+◌, ◌-◌, ◌≤◌, ◌<◌}
use native.Mathlib.Omega.{arith}
use borrow.Author.Tests.{eq-eqb, ne_eqb}
use lib.ListN.{length}
use Rattle.common.specs.Got.{Got, got, on}
use Rattle.common.specs.Store.{splice, Room, Puts, shown}
use Rattle.common.specs.declared.times.Bases.{Bases}
use Rattle.common.proofs.Choose.{pick_yes, pick_no}
use Rattle.common.proofs.Gives.{Gives, gives_on}
use Rattle.common.proofs.Puts.{room_left, room_right, puts_then}
use Rattle.data_field.specs.Fields.{live, span}
use Rattle.data_field.specs.declared.fields.Deletion.{Deletion}
use Rattle.data_partition.specs.declared.partitions.Partition.{Partition}
use Rattle.schema_check.specs.declared.records.Counts.{Counts}
use Rattle.data_items.specs.declared.Item.{Item}
use Rattle.data_contents.specs.Contents.{Widths, widths_of, Entry, Contents}
use Rattle.data_contents.proofs.Follows.{Parted, parted}
use Rattle.write_form.specs.Views.{show_entries, show_partition, show_contents}
use Rattle.write_form.specs.Partitions.{head_bytes}
use Rattle.write_form.specs.Whole.{entries_bytes, partition_bytes, form_of}
use Rattle.write_accept.specs.Fields.{item_of}
use Rattle.write_accept.specs.Tests.{bad_partition}
use Rattle.write_accept.specs.Entries.{deletion_of, partition_of, taken_entries, baseless, taken_partition, taken_at}
use Rattle.write_accept.proofs.Goods.{record_gives}
use Rattle.write_accept.proofs.Lying.{key_lies}
use Rattle.write_accept.proofs.Unfolds.{taken_unfold, partition_moves}
use Rattle.common.proofs.Gives.{got_value, got_place}
use Rattle.list_call.proofs.Writing.{Writing, writing_none, writing_same, writing_end, writing_room, writing_more}
use Rattle.write_store.specs.Parts.{partition_again, entries_written, partition_written, contents_written, Fitting, PutsTo, KeyThere}
use Rattle.write_store.specs.declared.entries.Behind.{Behind}
use Rattle.write_store.proofs.PutEntries.{entries_of_lem}

-- ---- a partition
partition_of_lem : (b : Bases) (t : Widths) (bytes : List ℕ) (x : Got Contents) (p : Contents) (n : ℕ) → x ≡ got p n → partition_written b t bytes x ≡ partition_bytes b t (show_partition bytes p)
unfolding partition_written
partition_of_lem b t bytes x p n e = rw e refl

pub key_is : (s : List ℕ) (at : ℕ) (i : Item) → i ≡ item_of s at → (x : Deletion) → x ≡ deletion_of i → ◌≡◌ {A = Partition} (record { key = span i.offset i.length; deletion = x }) (partition_of (item_of s at))
key_is s at i e x f = rw (f, e) refl

module _ (c : List ℕ) (k : Counts) (b : Bases) (bytes s : List ℕ) (at : ℕ) (d : List ℕ) (to : ℕ) (there : KeyThere bytes s at)
    (fit : Fitting (partition_again (widths_of c k) b bytes s at (length s)) (partition_written b (widths_of c k) bytes (partition_again (widths_of c k) b bytes s at (length s))) d to) where
  abbrev T : Widths
  T = widths_of c k

  abbrev Pe : Got Contents
  Pe = partition_again T b bytes s at (length s)

  abbrev Es : Got (List Entry)
  Es = taken_entries T b bytes 1 live s (at + 64) (length s)

  abbrev Whole : List Entry → Contents
  Whole es = record { header = partition_of (item_of s at); entries = es; end = 0 }

  whole_as : Pe ≡ on Es (λ es n. got (Whole es) n)
  unfolding partition_again
  whole_as = refl

  inner : Parted Es (λ es n. got (Whole es) n) fit.value fit.place
  inner = parted _ _ fit.value fit.place (sym whole_as ∙ fit.is)

  pub partition_within : at + 64 ≤ length s
  partition_within = there.within

  abbrev Head : List ℕ
  Head = head_bytes (shown bytes (item_of s at).offset (item_of s at).length) (deletion_of (item_of s at))

  parts : partition_written b T bytes Pe ≡ Head ++ (entries_bytes b T (length Head) (show_entries bytes inner.value) ++ (1 ∷ []))
  unfolding partition_bytes
  parts = partition_of_lem b T bytes Pe fit.value fit.place fit.is ∙ ap (λ (y : Contents). partition_bytes b T (show_partition bytes y)) (sym (got_value inner.rest))

  room : Room d to (Head ++ (entries_bytes b T (length Head) (show_entries bytes inner.value) ++ (1 ∷ [])))
  room = rw (← parts) fit.room

  module _ (h : Partition) (e : h ≡ partition_of (item_of s at)) where
    pub partition_lies : h.key.start + h.key.len ≤ length bytes
    partition_lies = rw e there.lies

    pub partition_room : Room d to (head_bytes (shown bytes h.key.start h.key.len) h.deletion)
    partition_room = rw e (room_left d to Head _ room)

    module _ (d₁ : List ℕ) (n : ℕ) (p : Puts d d₁ to (head_bytes (shown bytes h.key.start h.key.len) h.deletion) n) where
      put : Puts d d₁ to Head n
      put = rw e at p

      pub partition_least : to ≤ n
      partition_least = omega (arith, put.next)

      start : n - to ≡ length Head
      start = omega (arith, put.next)

      entries_are : entries_written b T bytes (n - to) Es ≡ entries_bytes b T (length Head) (show_entries bytes inner.value) ++ (1 ∷ [])
      entries_are = entries_of_lem b T bytes (n - to) Es inner.value inner.place inner.is ∙ ap (λ (z : ℕ). entries_bytes b T z (show_entries bytes inner.value) ++ (1 ∷ [])) start

      pub partition_entries : length d₁ ≡ length d → Fitting Es (entries_written b T bytes (n - to) Es) d₁ n
      partition_entries l = record {
        value = inner.value;
        place = inner.place;
        is = inner.is;
        room = rw entries_are (room_right d d₁ to n Head _ room put);
        small = omega (arith, l, fit.small);
      }

      pub partition_puts : (d₂ : List ℕ) (r : Behind) → PutsTo Es (entries_written b T bytes (n - to) Es) d₁ d₂ n r → PutsTo Pe (partition_written b T bytes Pe) d d₂ to r
      partition_puts d₂ r v = record {
        next = λ a m g. v.next inner.value inner.place inner.is ∙ got_place (inner.rest ∙ sym fit.is ∙ g);
        puts = rw parts (puts_then d d₁ d₂ to n r.out Head (entries_bytes b T (length Head) (show_entries bytes inner.value) ++ (1 ∷ [])) room put (rw (← entries_are) v.puts));
      }

pub ruleset partitioning = (key_is, partition_within, partition_lies, partition_room, partition_least, partition_entries, partition_puts)

-- ---- what is taken is what is read again
partition_again_lem : (t : Widths) (b : Bases) (bytes s : List ℕ) (at : ℕ) → Gives (taken_partition t b bytes s at (length s)) (λ p n. (partition_again t b bytes s at (length s) ≡ got p n) × KeyThere bytes s at)
unfolding taken_partition partition_again
partition_again_lem t b bytes s at =
    gives_on _ (record_gives baseless (bad_partition bytes) s at (length s)) (λ i m g.
    record { given = λ p n d. (rw (g.is, g.next) at d, record { within = omega (arith, g.next, g.within); lies = rw g.is at (key_lies bytes i g.right) }) })

-- ---- all of them
contents_of_lem : (b : Bases) (t : Widths) (bytes : List ℕ) (x : Got (List Contents)) (ps : List Contents) (n : ℕ) → x ≡ got ps n → contents_written b t bytes x ≡ form_of b t (show_contents bytes ps)
unfolding contents_written
contents_of_lem b t bytes x ps n e = rw e refl

form_none : (b : Bases) (t : Widths) (bytes : List ℕ) → form_of b t (show_contents bytes []) ≡ []
unfolding form_of
form_none b t bytes = refl

form_next : (b : Bases) (t : Widths) (bytes : List ℕ) (p : Contents) (ps : List Contents) → form_of b t (show_contents bytes (p ∷ ps)) ≡ partition_bytes b t (show_partition bytes p) ++ form_of b t (show_contents bytes ps)
unfolding form_of
form_next b t bytes p ps = refl

-- the partitions from p on, and their bytes; x is what all of them are
pub record Filing (x : Got (List Contents)) (c : List ℕ) (k : Counts) (b : Bases) (bytes s d₀ d : List ℕ) (p out : ℕ) : Type 0 where
  pub within : p ≤ length s
  pub parts : List Contents
  pub end : ℕ
  pub is : taken_at (widths_of c k) b bytes s p (length s) ≡ got parts end
  pub writing : Writing (contents_written b (widths_of c k) bytes x) d₀ d 0 out (form_of b (widths_of c k) (show_contents bytes parts))
  pub small : length d₀ ≤ 1073741824

module _ (c : List ℕ) (k : Counts) (b : Bases) (bytes s d : List ℕ) where
  pub filing_none : Fitting (taken_at (widths_of c k) b bytes s 0 (length s)) (contents_written b (widths_of c k) bytes (taken_at (widths_of c k) b bytes s 0 (length s))) d 0
      → Filing (taken_at (widths_of c k) b bytes s 0 (length s)) c k b bytes s d d 0 0
  filing_none f =
      let e = contents_of_lem b (widths_of c k) bytes (taken_at (widths_of c k) b bytes s 0 (length s)) f.value f.place f.is in
      record {
        within = omega arith;
        parts = f.value;
        end = f.place;
        is = f.is;
        writing = rw e (writing_none (form_of b (widths_of c k) (show_contents bytes f.value)) d 0 (rw e at f.room));
        small = f.small;
      }

module _ (x : Got (List Contents)) (c : List ℕ) (k : Counts) (b : Bases) (bytes s d₀ d : List ℕ) (p out : ℕ) (i : Filing x c k b bytes s d₀ d p out) where
  abbrev Ft : Widths
  Ft = widths_of c k

  pub filing_same : length d ≡ length d₀
  filing_same = writing_same _ d₀ d 0 out _ i.writing

  pub filing_end : p ≡ length s → d ≡ splice d₀ 0 (contents_written b (widths_of c k) bytes x)
  filing_end e =
      let g : [] ≡ i.parts = got_value (sym (taken_unfold b bytes s (length s) Ft p i.within ∙ sym (pick_yes _ _ _ _ (eq-eqb p (length s) e) refl)) ∙ i.is) in
      (writing_end _ d₀ d 0 out _ i.writing (ap (λ (y : List Contents). form_of b Ft (show_contents bytes y)) (sym g) ∙ form_none b Ft bytes)).stores

  module _ (h : p ≡ length s → ⊥) where
    one : Parted (taken_partition Ft b bytes s p (length s)) (λ y n. on (taken_at Ft b bytes s n (length s)) (λ ps m. got (y ∷ ps) m)) i.parts i.end
    one = parted _ _ i.parts i.end (sym (taken_unfold b bytes s (length s) Ft p i.within ∙ sym (pick_no _ _ _ _ (ne_eqb p (length s) h) refl)) ∙ i.is)

    rest : Parted (taken_at Ft b bytes s one.place (length s)) (λ ps m. got (one.value ∷ ps) m) i.parts i.end
    rest = parted _ _ i.parts i.end one.rest

    again : (partition_again Ft b bytes s p (length s) ≡ got one.value one.place) × KeyThere bytes s p
    again = (partition_again_lem Ft b bytes s p).given one.value one.place one.is

    pub filing_there : KeyThere bytes s p
    filing_there = again.1

    both : form_of b Ft (show_contents bytes i.parts) ≡ partition_bytes b Ft (show_partition bytes one.value) ++ form_of b Ft (show_contents bytes rest.value)
    both = ap (λ (y : List Contents). form_of b Ft (show_contents bytes y)) (sym (got_value rest.rest)) ∙ form_next b Ft bytes one.value rest.value

    bytes_are : partition_written b Ft bytes (partition_again Ft b bytes s p (length s)) ≡ partition_bytes b Ft (show_partition bytes one.value)
    bytes_are = partition_of_lem b Ft bytes _ one.value one.place again.0

    pub filing_fits : Fitting (partition_again Ft b bytes s p (length s)) (partition_written b Ft bytes (partition_again Ft b bytes s p (length s))) d out
    filing_fits = record {
      value = one.value;
      place = one.place;
      is = again.0;
      room = rw bytes_are (writing_room _ d₀ d 0 out _ i.writing _ _ both);
      small = omega (arith, filing_same, i.small);
    }

    module _ (d' : List ℕ) (r : Behind) (v : PutsTo (partition_again Ft b bytes s p (length s)) (partition_written b Ft bytes (partition_again Ft b bytes s p (length s))) d d' out r) where
      next_is : r.next ≡ one.place
      next_is = v.next one.value one.place again.0

      moved : (p + 64 ≤ one.place) × (one.place ≤ length s)
      moved = (partition_moves b bytes s (length s) Ft p).given one.value one.place one.is

      puts : Puts d d' out (partition_bytes b Ft (show_partition bytes one.value)) r.out
      puts = rw (← bytes_are) v.puts

      pub filing_less : (m : ℕ) → m ≡ r.next → length s - m < length s - p
      filing_less m e = omega (arith, e, next_is, moved.0, moved.1)

      pub filing_more : (m n : ℕ) → m ≡ r.next → n ≡ r.out → Filing x c k b bytes s d₀ d' m n
      filing_more m n e f = record {
        within = omega (arith, e, next_is, moved.1);
        parts = rest.value;
        end = i.end;
        is = rw (e ∙ next_is) (rest.is ∙ ap (got rest.value) (got_place rest.rest));
        writing = rw f (writing_more _ d₀ d 0 out _ i.writing _ _ both d' r.out puts);
        small = i.small;
      }

pub ruleset filing = (filing_none, filing_same, filing_end, filing_there, filing_fits, filing_less, filing_more, refl)
