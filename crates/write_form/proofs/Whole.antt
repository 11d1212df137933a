-- Data in the writer's form is read back, whole. Assumes nothing.
use mathlib.Core.Path.{◌≡◌, refl, sym, ap, ◌∙◌, subst}
use mathlib.Core.Bool.{false}
use mathlib.Core.List.{List, [], ◌∷◌, ◌++◌, append_assoc}
use Prim.Native.Nat.{ℕ, ◌+◌, ◌-◌, ◌%◌, ◌^◌, ◌≤◌, ◌<◌}
use native.Mathlib.Omega.{arith}
use borrow.Author.Tests.{ne_eqb, eq-eqb}
use lib.Dec.{eqb}
use lib.ListN.{length, length-append}
use Rattle.common.specs.declared.times.Bases.{Bases}
use Rattle.common.proofs.RoundTrip.{Reads, reads_got, reads_on, reads_at, reads_yes, reads_no, reads_to}
use Rattle.common.proofs.Stands.{Stands, stands_left, stands_right}
use Rattle.data_field.specs.Fields.{byte_at, live}
use Rattle.data_field.specs.declared.fields.Deletion.{Deletion}
use Rattle.data_contents.specs.Contents.{Widths, Entry, static_entry, row_entry, marker_entry, open_behind, entry_at, closed_at, entries_at, whole_at, contents_at}
use Rattle.data_contents.proofs.Unfolds.{entries_unfold, contents_unfold}
use Rattle.write_form.specs.Views.{EntryView, static_view, row_view, marker_view, PartitionView, show_entry, show_entries, show_partition, show_contents}
use Rattle.write_form.specs.Rows.{flags_of, content_bytes, sized_bytes, static_bytes, row_bytes}
use Rattle.write_form.specs.Clusterings.{prefix_bytes}
use Rattle.write_form.specs.Markers.{bound_bytes, marker_bytes}
use Rattle.write_form.specs.Partitions.{head_bytes}
use Rattle.write_form.specs.Whole.{entry_bytes, back_behind, entries_bytes, partition_bytes, form_of}
use Rattle.write_form.specs.Fits.{Bounded, EntryFits, open_view, EntriesFit, PartitionFits, AllFit}
use Rattle.write_form.proofs.Fields.{stands_none, byte_back}
use Rattle.write_form.proofs.Rows.{flags_are}
use Rattle.write_form.proofs.RowEntries.{static_entry_back, row_entry_back}
use Rattle.write_form.proofs.Markers.{marker_entry_back}
use Rattle.write_form.proofs.Partitions.{partition_back}

-- ---- entries
-- what is open behind an entry shows
pub open_shown : (s : List ℕ) (opened : Deletion) (x : Entry) → open_behind opened x ≡ open_view opened (show_entry s x)
open_shown s opened (static_entry r cs) = refl
open_shown s opened (row_entry r vs cs) = refl
open_shown s opened (marker_entry m n vs) = refl

-- an entry begins with the byte f, which is no end byte, and is read as what it is
record Begins (t : Widths) (b : Bases) (s : List ℕ) (first : ℕ) (opened : Deletion) (end at n : ℕ) (e : EntryView) : Type 0 where
  byte : ℕ
  next : ℕ
  begins : Reads (byte_at s at end) next (λ f. f ≡ byte)
  other : eqb byte 1 ≡ false
  reads : Reads (entry_at t b first opened byte s at end) n (λ x. show_entry s x ≡ e)

-- no row's flags are an end byte or a marker's
row_byte : (f k : ℕ) → f % 4 ≡ 0 → 1 ≤ k → k ≤ 2 → eqb f k ≡ false
row_byte f k e l m = ne_eqb f k (λ z. absurd (omega arith))

module _ (s : List ℕ) (short : length s < 2 ^ 64) (t : Widths) (few : Bounded t) (b : Bases) (end : ℕ) where
  entry_back : (e : EntryView) (first : ℕ) (opened : Deletion) (back at n : ℕ) → back < 2 ^ 64 → EntryFits b t first opened e → Stands s end at n (entry_bytes b t back e)
      → Begins t b s first opened end at n e
  unfolding entry_at entry_bytes static_bytes row_bytes marker_bytes
  entry_back (static_view r) first opened back at n l i h =
      let f = flags_are b t.statics r 1 (omega arith) i.1 in
      record {
        byte = flags_of 1 r;
        next = _;
        begins = byte_back s end at _ (flags_of 1 r) (stands_left s end at n (flags_of 1 r ∷ []) ((1 ∷ []) ++ sized_bytes 0 (content_bytes b t.statics r)) h);
        other = row_byte (flags_of 1 r) 1 f.row (omega arith) (omega arith);
        reads = reads_no _ _ (row_byte (flags_of 1 r) 2 f.row (omega arith) (omega arith)) (static_entry_back s short t few b first end at n r i.0 i.1 h);
      }
  entry_back (row_view vs r) first opened back at n l i h =
      let f = flags_are b t.regulars r 0 (omega arith) i.1 in
      record {
        byte = flags_of 0 r;
        next = _;
        begins = byte_back s end at _ (flags_of 0 r) (stands_left s end at n (flags_of 0 r ∷ []) (prefix_bytes t.clustering vs ++ sized_bytes back (content_bytes b t.regulars r)) h);
        other = row_byte (flags_of 0 r) 1 f.row (omega arith) (omega arith);
        reads = reads_no _ _ (row_byte (flags_of 0 r) 2 f.row (omega arith) (omega arith)) (row_entry_back s short t few b first end at n r vs back l i.0 i.1 h);
      }
  entry_back (marker_view m) first opened back at n l i h = record {
    byte = 2;
    next = _;
    begins = byte_back s end at _ 2 (stands_left s end at n (2 ∷ []) ((m.kind ∷ []) ++ bound_bytes b t.clustering back m) h);
    other = refl;
    reads = reads_yes _ _ refl (marker_entry_back s short t few b opened m i end at n back l h);
  }

  back_le : (e : EntryView) (back k at : ℕ) → back ≤ at → back_behind back k e ≤ at + k
  unfolding back_behind
  back_le (static_view r) back k at l = omega arith
  back_le (row_view vs r) back k at l = omega arith
  back_le (marker_view m) back k at l = omega arith

  -- entries and the end byte at p
  entries_back : (es : List EntryView) (first : ℕ) (opened : Deletion) (back at p : ℕ) → back ≤ at → EntriesFit b t first opened es → Stands s end at (p + 1) (entries_bytes b t back es ++ (1 ∷ []))
      → Reads (entries_at t b first opened s at end) p (λ xs. show_entries s xs ≡ es)
  unfolding entries_bytes closed_at
  entries_back [] first opened back at p l i h =
      subst (λ z. Reads z p (λ xs. show_entries s xs ≡ [])) (sym (entries_unfold t b s end first opened at))
      (reads_at _ (byte_back s end at (p + 1) 1 h) (reads_yes _ _ refl (reads_yes _ _ (eq-eqb opened.deleted 0 i) (reads_to (omega (arith, h.stop)) (reads_got [] at refl)))))
  entries_back (e ∷ es) first opened back at p l i h =
      let w : List ℕ = entry_bytes b t back e in
      let v : List ℕ = entries_bytes b t (back_behind back (length w) e) es in
      let all : Stands s end at (p + 1) (w ++ (v ++ (1 ∷ []))) = subst (Stands s end at (p + 1)) (append_assoc w v (1 ∷ [])) h in
      let c = entry_back e first opened back at _ (omega (arith, h.stop, h.within, h.inside)) i.0 (stands_left s end at (p + 1) w (v ++ (1 ∷ [])) all) in
      subst (λ z. Reads z p (λ xs. show_entries s xs ≡ e ∷ es)) (sym (entries_unfold t b s end first opened at))
      (reads_at _ c.begins
      (reads_no _ _ c.other
      (reads_on _ c.reads (λ x q.
      reads_on _ (subst (λ o. Reads (entries_at t b 0 o s (at + length w) end) p (λ xs. show_entries s xs ≡ es)) (sym (open_shown s opened x ∙ ap (open_view opened) q))
      (entries_back es 0 (open_view opened e) (back_behind back (length w) e) (at + length w) p (back_le e back (length w) at l) i.1 (stands_right s end at (p + 1) w (v ++ (1 ∷ [])) all))) (λ xs g.
      reads_got (x ∷ xs) p (λ j. q j ∷ g j))))))

  -- ---- partitions
  whole_back : (x : PartitionView) (at p : ℕ) → PartitionFits b t x → Stands s end at (p + 1) (partition_bytes b t x) → Reads (whole_at t b s at end) (p + 1) (λ y. show_partition s y ≡ x)
  unfolding whole_at partition_bytes
  whole_back x at p i h =
      let w : List ℕ = head_bytes x.key x.deletion in
      let v : List ℕ = entries_bytes b t (length w) x.entries ++ (1 ∷ []) in
      reads_on _ (partition_back s end at _ x.key x.deletion i.key i.deletion (stands_left s end at (p + 1) w v h)) (λ y q.
      reads_on _ (entries_back x.entries 1 live (length w) (at + length w) p (omega arith) i.entries (stands_right s end at (p + 1) w v h)) (λ es g.
      reads_got _ (p + 1) (λ j. record { key = q.0 j; deletion = q.1 j; entries = g j })))

  -- a partition has a byte, its end
  partition_some : (x : PartitionView) → 1 ≤ length (partition_bytes b t x)
  unfolding partition_bytes
  partition_some x =
      let w : List ℕ = head_bytes x.key x.deletion in
      let v : List ℕ = entries_bytes b t (length w) x.entries in
      omega (arith, length-append w (v ++ (1 ∷ [])), length-append v (1 ∷ []))

  pub all_back : (xs : List PartitionView) (at : ℕ) → at ≤ end → AllFit b t xs → Stands s end at end (form_of b t xs) → Reads (contents_at t b s at end) end (λ ys. show_contents s ys ≡ xs)
  unfolding form_of
  all_back [] at l i h =
      subst (λ z. Reads z end (λ ys. show_contents s ys ≡ [])) (sym (contents_unfold t b s end at l))
      (reads_yes _ _ (eq-eqb at end (stands_none s end at end h)) (reads_to (stands_none s end at end h) (reads_got [] at refl)))
  all_back (x ∷ xs) at l i h =
      let w : List ℕ = partition_bytes b t x in
      let k = partition_some x in
      let here = stands_left s end at end w (form_of b t xs) h in
      let p : ℕ = at + length w - 1 in
      let e : at + length w ≡ p + 1 = omega arith in
      let rest = stands_right s end at end w (form_of b t xs) h in
      subst (λ z. Reads z end (λ ys. show_contents s ys ≡ x ∷ xs)) (sym (contents_unfold t b s end at l))
      (reads_no _ _ (ne_eqb at end (λ z. absurd (omega (arith, here.within))))
      (reads_on _ (whole_back x at p i.0 (subst (λ q. Stands s end at q w) e here)) (λ y q.
      reads_on _ (all_back xs (p + 1) (omega (arith, here.within)) i.1 (subst (λ q. Stands s end q end (form_of b t xs)) e rest)) (λ ys g.
      reads_got (y ∷ ys) end (λ j. q j ∷ g j)))))
