-- How long what is taken can be: each record of 64 bytes shows at most 2^30 bytes, and some hundred more. Assumes nothing.
use mathlib.Core.Path.{◌≡◌, refl}
use mathlib.Core.Bool.{Bool, true, false}
use mathlib.Core.List.{List, [], ◌∷◌}
use Prim.Native.Nat.{ℕ, zero, suc, ◌+◌, ◌-◌, ◌*◌, ◌≤◌}
use native.Mathlib.Omega.{arith}
use lib.Dec.{eqb}
use lib.ListN.{length, get_or, length-append}
use Rattle.common.specs.Got.{Got}
use Rattle.common.specs.declared.times.Bases.{Bases}
use Rattle.common.proofs.Gives.{Gives, gives_got, gives_bad, gives_on, gives_pick}
use Rattle.data_field.specs.declared.fields.Deletion.{Deletion}
use Rattle.data_cell.specs.declared.cells.Times.{Times}
use Rattle.data_contents.specs.Contents.{Widths, open_behind}
use Rattle.write_form.specs.Views.{show_value, show_values, show_cell, show_cells, show_entry, show_entries}
use Rattle.write_form.specs.Cells.{cell_form}
use Rattle.write_form.specs.Clusterings.{header_of, clustering_bytes, values_bytes}
use Rattle.write_form.specs.Rows.{missing_of, cells_bytes}
use Rattle.write_form.specs.Markers.{deletions_bytes}
use Rattle.write_form.specs.Whole.{entry_bytes, back_behind, entries_bytes}
use Rattle.write_accept.specs.Records.{kind_at}
use Rattle.write_accept.specs.Tests.{bad_row, bad_static, bad_marker, bad_clustering, bad_cell, bad_end}
use Rattle.write_accept.specs.Entries.{value_of, times_of, cell_of, deletions_of, taken_values, taken_prefix, is_cell, taken_cells, taken_static, taken_row, taken_marker, taken_entry, taken_end, taken_entries_in, taken_entries}
use Rattle.write_accept.proofs.Goods.{record_gives}
use Rattle.write_accept.proofs.Unfolds.{entry_moves}
use Rattle.write_cell.proofs.Sizes.{value_size_most, cell_size_most}
use Rattle.write_row_parts.proofs.Laws.{header_most, deletions_most}
use Rattle.write_measure_parts.specs.Lengths.{taken_clustering}
use Rattle.write_measure_parts.proofs.Sizes.{value_short, value_length, cell_short, cell_length}
use Rattle.write_measure.specs.Measured.{body_length}
use Rattle.write_measure.proofs.Lengths.{sized_most, body_most, static_length_lem, row_length_lem, marker_length_lem}

-- n bytes from records between at and p
pub record Grown (at end n p : ℕ) : Type 0 where
  pub least : at ≤ p
  pub within : at ≤ end → p ≤ end
  pub most : n ≤ 33554432 * (p - at)

module _ (b : Bases) (bytes s : List ℕ) (end : ℕ) (short : length bytes ≤ 1073741824) where
  none_grown : (at n : ℕ) → n ≡ 0 → Grown at end n at
  none_grown at n e = record { least = omega arith; within = λ h. h; most = omega arith }

  one_grown : (at m p x y n : ℕ) → m ≡ at + 64 → m ≤ end → x ≤ 2147483648 → n ≡ x + y → Grown m end y p → Grown at end n p
  one_grown at m p x y n e l h f g = record { least = omega (arith, g.least); within = λ _. g.within l; most = omega (arith, g.least, g.most) }

  values_grown : (column : ℕ) (ws : List ℕ) (at : ℕ) → Gives (taken_values b bytes column ws s at end) (λ vs n. Grown at end (length (values_bytes ws (show_values bytes vs))) n)
  unfolding taken_values values_bytes
  values_grown column [] at = gives_got _ _ (none_grown at _ refl)
  values_grown column (w ∷ ws) at =
      gives_on _ (record_gives b (bad_clustering bytes column w) s at end) (λ i m g.
      gives_on _ (values_grown (column + 1) ws m) (λ vs n h.
      gives_got _ _ (one_grown at m n _ _ _ g.next g.within
      (let k = value_size_most w i.length (value_short bytes column w i g.right short) in omega (arith, value_length bytes column w i g.right))
      (length-append (clustering_bytes w (show_value bytes (value_of i))) (values_bytes ws (show_values bytes vs))) h)))

  prefix_grown : (column : ℕ) (ws : List ℕ) (at : ℕ) → Gives (taken_prefix b bytes column ws s at end) (λ vs n. Grown at end (length (values_bytes ws (show_values bytes vs))) n)
  unfolding taken_prefix values_bytes
  prefix_grown column [] at = gives_got _ _ (none_grown at _ refl)
  prefix_grown column (w ∷ ws) at =
      gives_pick (eqb (get_or s at 0) 5)
      (λ e.
      gives_on _ (record_gives b (bad_clustering bytes column w) s at end) (λ i m g.
      gives_on _ (prefix_grown (column + 1) ws m) (λ vs n h.
      gives_got _ _ (one_grown at m n _ _ _ g.next g.within
      (let k = value_size_most w i.length (value_short bytes column w i g.right short) in omega (arith, value_length bytes column w i g.right))
      (length-append (clustering_bytes w (show_value bytes (value_of i))) (values_bytes ws (show_values bytes vs))) h))))
      (λ e. gives_got _ _ (none_grown at _ refl))

  pub clustering_grown : (whole : Bool) (column : ℕ) (ws : List ℕ) (at : ℕ) → Gives (taken_clustering whole b bytes column ws s at end) (λ vs n. Grown at end (length (values_bytes ws (show_values bytes vs))) n)
  unfolding taken_clustering
  clustering_grown true column ws at = values_grown column ws at
  clustering_grown false column ws at = prefix_grown column ws at

  pub cells_grown : (row : Times) (column : ℕ) (ws : List ℕ) (at : ℕ) → Gives (taken_cells b bytes column ws s at end) (λ cs n. Grown at end (length (cells_bytes b row ws (show_cells bytes cs))) n)
  unfolding taken_cells cells_bytes
  cells_grown row column [] at = gives_got _ _ (none_grown at _ refl)
  cells_grown row column (w ∷ ws) at =
      gives_pick (is_cell column s at)
      (λ e.
      gives_on _ (record_gives b (bad_cell bytes column w) s at end) (λ i m g.
      gives_on _ (cells_grown row (column + 1) ws m) (λ cs n h.
      gives_got _ _ (one_grown at m n _ _ _ g.next g.within
      (let k = cell_size_most b row w (cell_of i) (cell_short bytes column w i g.right short) in omega (arith, cell_length bytes column w i g.right b row))
      (length-append (cell_form b row w (show_cell bytes (cell_of i))) (cells_bytes b row ws (show_cells bytes cs))) h))))
      (λ e. gives_on _ (cells_grown row (column + 1) ws at) (λ cs n h. gives_got _ _ h))

  module _ (t : Widths) where
    pub entry_grown : (back first : ℕ) (opened : Deletion) (kind at : ℕ)
        → Gives (taken_entry t b bytes first opened kind s at end) (λ e n. length (entry_bytes b t back (show_entry bytes e)) ≤ 33554432 * (n - at))
    unfolding taken_entry taken_static taken_row taken_marker
    entry_grown back first opened kind at =
        gives_pick (eqb kind 2)
        (λ e.
        gives_on _ (record_gives b (bad_static first (length t.statics)) s at end) (λ i m g.
        gives_on _ (cells_grown (times_of i) 0 t.statics m) (λ cs n h.
        let x = missing_of (show_cells bytes cs) in
        let y = length (cells_bytes b (times_of i) t.statics (show_cells bytes cs)) in
        gives_got _ _ (omega (arith, static_length_lem b t bytes back i cs, sized_most 0 (body_length b i x y), body_most b i x y, g.next, h.least, h.most)))))
        (λ e.
        gives_pick (eqb kind 3)
        (λ f.
        gives_on _ (record_gives b (bad_row 3) s at end) (λ i m g.
        gives_on _ (values_grown 0 t.clustering m) (λ vs p v.
        gives_on _ (cells_grown (times_of i) 0 t.regulars p) (λ cs n h.
        let x = missing_of (show_cells bytes cs) in
        let y = length (cells_bytes b (times_of i) t.regulars (show_cells bytes cs)) in
        gives_got _ _ (omega (arith, row_length_lem b t bytes back i vs cs, sized_most back (body_length b i x y), body_most b i x y, header_most (length vs) (header_of (show_values bytes vs)), g.next, v.least, v.most, h.least, h.most))))))
        (λ f.
        gives_pick (eqb kind 4)
        (λ k.
        gives_on _ (record_gives b (bad_marker opened) s at end) (λ i m g.
        gives_on _ (prefix_grown 0 t.clustering m) (λ vs n h.
        let y = length (deletions_bytes b i.column (deletions_of i)) in
        gives_got _ _ (omega (arith, marker_length_lem b t bytes back i vs, sized_most back y, deletions_most b i.column (deletions_of i), header_most (length vs) (header_of (show_values bytes vs)), g.next, h.least, h.most)))))
        (λ k. gives_bad _ _)))

    any : {A : Type 0} (x : Got A) → Gives x (λ a n. Unit)
    any x = record { given = λ a n e. tt }

    both : {A : Type 0} {x : Got A} {P Q : A → ℕ → Type 0} → Gives x P → Gives x Q → Gives x (λ a n. P a n × Q a n)
    both g h = record { given = λ a n e. (g.given a n e, h.given a n e) }

    -- with the end byte
    entries_grown_in : (j back first : ℕ) (opened : Deletion) (at : ℕ)
        → Gives (taken_entries_in j t b bytes first opened s at end) (λ es n. (at ≤ n) × (length (entries_bytes b t back (show_entries bytes es)) + 1 ≤ 33554432 * (n - at)))
    unfolding taken_entries_in taken_end entries_bytes
    entries_grown_in zero back first opened at = gives_bad _ _
    entries_grown_in (suc j) back first opened at =
        gives_on _ (any (kind_at s at end)) (λ kind q _.
        gives_pick (eqb kind 7)
        (λ e. gives_on _ (record_gives b (bad_end opened) s at end) (λ i n g. gives_got _ _ (omega (arith, g.next), omega (arith, g.next))))
        (λ e.
        gives_on _ (both (entry_moves b bytes s end t first opened kind at) (entry_grown back first opened kind at)) (λ x m h.
        let w = entry_bytes b t back (show_entry bytes x) in
        let r = back_behind back (length w) (show_entry bytes x) in
        gives_on _ (entries_grown_in j r 0 (open_behind opened x) m) (λ es n k.
        gives_got _ _ (omega (arith, h.0.0, k.0), omega (arith, h.0.0, h.1, k.0, k.1, length-append w (entries_bytes b t r (show_entries bytes es))))))))

    pub entries_grown : (back first : ℕ) (opened : Deletion) (at : ℕ)
        → Gives (taken_entries t b bytes first opened s at end) (λ es n. (at ≤ n) × (length (entries_bytes b t back (show_entries bytes es)) + 1 ≤ 33554432 * (n - at)))
    unfolding taken_entries
    entries_grown back first opened at = entries_grown_in (end - at) back first opened at
