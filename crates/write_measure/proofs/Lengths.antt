-- How long an entry is, by the lengths of its parts. Assumes nothing.
use mathlib.Core.Path.{◌≡◌, refl, ap, ◌∙◌}
use mathlib.Core.List.{List, [], ◌∷◌, ◌++◌}
use mathlib.Core.Option.{Option}
use Prim.Native.Nat.{ℕ, suc, ◌+◌, ◌≤◌}
use native.Mathlib.Omega.{arith}
use lib.ListN.{length, take, length-append}
use Rattle.common.specs.declared.times.Bases.{Bases}
use Rattle.data_field.specs.declared.fields.Span.{Span}
use Rattle.data_cell.specs.declared.cells.Cell.{Cell}
use Rattle.data_items.specs.declared.Item.{Item}
use Rattle.data_contents.specs.Contents.{Widths, static_entry, row_entry, marker_entry}
use Rattle.write_form.specs.Views.{show_values, show_cells, show_row, show_marker, show_entry, PartitionView}
use Rattle.write_form.specs.Clusterings.{header_of, header_bytes, clustering_bytes, values_bytes, prefix_bytes}
use Rattle.write_form.specs.Rows.{missing_of, cells_bytes, content_bytes, sized_bytes, static_bytes, row_bytes}
use Rattle.write_form.specs.Markers.{deletions_bytes}
use Rattle.write_form.specs.Partitions.{head_bytes}
use Rattle.write_form.specs.Whole.{entry_bytes, entries_bytes, partition_bytes}
use Rattle.write_accept.specs.Entries.{deletion_of, times_of, row_of, deletions_of, marker_of}
use Rattle.write_row_parts.specs.Parts.{head_form, sizes_form, header_form, bound_form}
use Rattle.write_row_parts.proofs.Laws.{content_form, sized_form, header_form_lem, marker_form, head_most, sizes_most, bound_length}
use Rattle.write_measure.specs.Measured.{body_length, sized_length}

pub sized_most : (previous n : ℕ) → sized_length previous n ≤ n + 18
unfolding sized_length
sized_most previous n = omega (arith, sizes_most previous n)

pub body_most : (b : Bases) (i : Item) (missing n : ℕ) → body_length b i missing n ≤ n + 54
unfolding body_length
body_most b i missing n = omega (arith, head_most b (times_of i) (deletion_of i) missing)

sized_length_lem : (previous : ℕ) (w : List ℕ) (n : ℕ) → length w ≡ n → length (sized_bytes previous w) ≡ sized_length previous n
unfolding sized_length
sized_length_lem previous w n e = ap length (sized_form previous w) ∙ length-append (sizes_form previous (length w)) w ∙ ap (λ (k : ℕ). length (sizes_form previous k) + k) e

body_length_lem : (b : Bases) (ws bytes : List ℕ) (x : ℕ) (i : Item) (cs : List (Option Cell))
    → length (content_bytes b ws (show_row bytes (row_of x i) cs)) ≡ body_length b i (missing_of (show_cells bytes cs)) (length (cells_bytes b (times_of i) ws (show_cells bytes cs)))
unfolding body_length
body_length_lem b ws bytes x i cs =
    ap length (content_form b ws (show_row bytes (row_of x i) cs))
    ∙ length-append (head_form b (times_of i) (deletion_of i) (missing_of (show_cells bytes cs))) (cells_bytes b (times_of i) ws (show_cells bytes cs))

prefix_length : (ws : List ℕ) (vs : List (List ℕ)) → length (prefix_bytes ws vs) ≡ length (header_form (length vs) (header_of vs)) + length (values_bytes ws vs)
unfolding prefix_bytes
prefix_length ws vs = length-append (header_bytes vs) (values_bytes ws vs) ∙ ap (λ (x : List ℕ). length x + length (values_bytes ws vs)) (header_form_lem vs)

pub show_count : (bytes : List ℕ) (vs : List Span) → length (show_values bytes vs) ≡ length vs
show_count bytes [] = refl
show_count bytes (v ∷ vs) = ap suc (show_count bytes vs)

-- the columns behind a marker's last value do not show
take_values : (ws : List ℕ) (vs : List (List ℕ)) → values_bytes (take (length vs) ws) vs ≡ values_bytes ws vs
unfolding values_bytes
take_values [] [] = refl
take_values [] (v ∷ vs) = refl
take_values (w ∷ ws) [] = refl
take_values (w ∷ ws) (v ∷ vs) = ap (λ (x : List ℕ). clustering_bytes w v ++ x) (take_values ws vs)

module _ (b : Bases) (t : Widths) (bytes : List ℕ) (back : ℕ) (i : Item) where
  pub static_length_lem : (cs : List (Option Cell))
      → length (entry_bytes b t back (show_entry bytes (static_entry (row_of 1 i) cs))) ≡ 2 + sized_length 0 (body_length b i (missing_of (show_cells bytes cs)) (length (cells_bytes b (times_of i) t.statics (show_cells bytes cs))))
  unfolding entry_bytes static_bytes
  static_length_lem cs = omega (arith, sized_length_lem 0 (content_bytes b t.statics (show_row bytes (row_of 1 i) cs)) _ (body_length_lem b t.statics bytes 1 i cs))

  pub row_length_lem : (vs : List Span) (cs : List (Option Cell))
      → length (entry_bytes b t back (show_entry bytes (row_entry (row_of 0 i) vs cs)))
      ≡ 1 + length (header_form (length vs) (header_of (show_values bytes vs))) + length (values_bytes t.clustering (show_values bytes vs))
      + sized_length back (body_length b i (missing_of (show_cells bytes cs)) (length (cells_bytes b (times_of i) t.regulars (show_cells bytes cs))))
  unfolding entry_bytes row_bytes
  row_length_lem vs cs =
      let x = prefix_bytes t.clustering (show_values bytes vs) in
      let w = content_bytes b t.regulars (show_row bytes (row_of 0 i) cs) in
      let e : length (header_form (length (show_values bytes vs)) (header_of (show_values bytes vs))) ≡ length (header_form (length vs) (header_of (show_values bytes vs))) = ap (λ (n : ℕ). length (header_form n (header_of (show_values bytes vs)))) (show_count bytes vs) in
      omega (arith, length-append x (sized_bytes back w), sized_length_lem back w _ (body_length_lem b t.regulars bytes 0 i cs), prefix_length t.clustering (show_values bytes vs), e)

  pub marker_length_lem : (vs : List Span)
      → length (entry_bytes b t back (show_entry bytes (marker_entry (marker_of i vs) 0 vs)))
      ≡ 4 + length (header_form (length vs) (header_of (show_values bytes vs))) + length (values_bytes t.clustering (show_values bytes vs))
      + sized_length back (length (deletions_bytes b i.column (deletions_of i)))
  unfolding entry_bytes
  marker_length_lem vs =
      let v = show_values bytes vs in
      let d = deletions_bytes b i.column (deletions_of i) in
      let x = prefix_bytes (take (length v) t.clustering) v in
      let e : length (header_form (length v) (header_of v)) ≡ length (header_form (length vs) (header_of v)) = ap (λ (n : ℕ). length (header_form n (header_of v))) (show_count bytes vs) in
      let f : length (values_bytes (take (length v) t.clustering) v) ≡ length (values_bytes t.clustering v) = ap length (take_values t.clustering v) in
      ap length (marker_form b t.clustering back (show_marker bytes (marker_of i vs) vs))
      ∙ omega (arith, length-append (bound_form i.column (length v)) (x ++ sized_bytes back d), bound_length i.column (length v), length-append x (sized_bytes back d), sized_length_lem back d _ refl, prefix_length (take (length v) t.clustering) v, e, f)

pub partition_length : (b : Bases) (t : Widths) (p : PartitionView) (h : ℕ) → length (head_bytes p.key p.deletion) ≡ h
    → length (partition_bytes b t p) ≡ h + (length (entries_bytes b t h p.entries) + 1)
unfolding partition_bytes
partition_length b t p h e =
    let x = head_bytes p.key p.deletion in
    let y = entries_bytes b t (length x) p.entries in
    let f : length y ≡ length (entries_bytes b t h p.entries) = ap (λ (k : ℕ). length (entries_bytes b t k p.entries)) e in
    omega (arith, length-append x (y ++ (1 ∷ [])), length-append y (1 ∷ []), e, f)
