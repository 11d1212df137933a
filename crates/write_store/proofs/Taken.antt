-- Values and cells that are taken are those that are read again. Assumes nothing.
use mathlib.Core.Path.{◌≡◌, refl, ap, ◌∙◌}
use mathlib.Core.Bool.{false}
use mathlib.Core.List.{List, [], ◌∷◌, ◌++◌}
use mathlib.Core.Option.{Option, none, some}
use Prim.Native.Nat.{ℕ, zero, suc, ◌+◌, ◌*◌, ◌≤◌, ◌<◌}
use native.Mathlib.Omega.{arith}
use lib.Dec.{eqb}
use lib.ListN.{length, get_or}
use Rattle.common.specs.Store.{shown}
use Rattle.common.specs.declared.times.Bases.{Bases}
use Rattle.common.proofs.Gives.{Gives, gives_got, gives_on, gives_pick}
use Rattle.data_field.specs.declared.fields.Span.{Span}
use Rattle.data_cell.specs.declared.cells.Times.{Times}
use Rattle.data_cell.specs.declared.cells.Cell.{Cell}
use Rattle.data_clustering.specs.Prefixes.{widths_at}
use Rattle.data_items.specs.declared.Item.{Item}
use Rattle.write_form.specs.Views.{show_value, show_values, show_cells}
use Rattle.write_form.specs.Cells.{cell_bytes}
use Rattle.write_form.specs.Clusterings.{clustering_bytes, values_bytes}
use Rattle.write_form.specs.Rows.{cells_bytes}
use Rattle.write_accept.specs.Fields.{item_of}
use Rattle.write_accept.specs.Tests.{unlike, bad_cell_flags, bad_clustering, bad_cell}
use Rattle.write_accept.specs.Entries.{value_of, cell_of, taken_values, taken_prefix, is_cell, taken_cells}
use Rattle.write_accept.proofs.Goods.{not_first, not_second, alike, Good, record_gives}
use Rattle.write_accept.proofs.Lying.{clustering_lies, cell_lies}
use Rattle.write_measure_parts.proofs.Sizes.{form_place}
use Rattle.write_store_parts.specs.Again.{value_again, values_again, cell_again, cells_again, ValuesThere, CellsThere}

-- ---- values
module _ (c bytes s : List ℕ) where
  -- the values vs of the columns whose records stand from a on, which end at n
  pub record Values (a : ℕ) (vs : List Span) (at n : ℕ) : Type 0 where
    pub place : n ≡ at + 64 * length vs
    pub there : ValuesThere bytes s at (length vs)
    pub form : values_bytes (widths_at c a (length vs)) (show_values bytes vs) ≡ values_again c a bytes s at (length vs)

  values_none : (a at : ℕ) → Values a [] at at
  unfolding values_bytes widths_at values_again
  values_none a at = record {
    place = omega arith;
    there = record { within = λ i l. absurd (omega arith); lie = λ i l. absurd (omega arith) };
    form = refl;
  }

  there_more : (at k : ℕ) → at + 64 ≤ length s → (item_of s at).offset + (item_of s at).length ≤ length bytes → ValuesThere bytes s (at + 64) k → ValuesThere bytes s at (suc k)
  there_more at k w l h = record { within = λ i m. inside i m; lie = λ i m. lies i m }
    where
      inside : (i : ℕ) → i < suc k → at + 64 * i + 64 ≤ length s
      inside zero m = omega arith
      inside (suc i) m = omega (arith, h.within i (omega arith))

      lies : (i : ℕ) → i < suc k → (item_of s (at + 64 * i)).offset + (item_of s (at + 64 * i)).length ≤ length bytes
      lies zero m = let e : at + 64 * 0 ≡ at = omega arith in rw e l
      lies (suc i) m = let e : at + 64 * suc i ≡ at + 64 + 64 * i = omega arith in rw e (h.lie i (omega arith))

  values_more : (a : ℕ) (vs : List Span) (at n : ℕ) → at + 64 ≤ length s → (item_of s at).offset + (item_of s at).length ≤ length bytes → Values (a + 16) vs (at + 64) n → Values a (value_of (item_of s at) ∷ vs) at n
  unfolding values_bytes widths_at values_again value_again
  values_more a vs at n w l h = record {
    place = omega (arith, h.place);
    there = there_more at (length vs) w l h.there;
    form = ap (λ (x : List ℕ). clustering_bytes (get_or c (a + 3) 0) (shown bytes (item_of s at).offset (item_of s at).length) ++ x) h.form;
  }

  -- behind a record that is taken
  values_next : (b : Bases) (column w a : ℕ) (vs : List Span) (at : ℕ) (i : Item) (m n : ℕ) → Good b (bad_clustering bytes column w) s at (length s) i m → Values (a + 16) vs m n → Values a (value_of i ∷ vs) at n
  values_next b column w a vs at i m n g h =
      let e = g.is in
      let k : (item_of s at).offset + (item_of s at).length ≤ length bytes = rw e at (clustering_lies bytes column w i g.right) in
      rw e (values_more a vs at n (omega (arith, g.next, g.within)) k (rw g.next at h))

  module _ (b : Bases) where
    -- those of a row
    pub values_again_lem : (column a k at : ℕ) → Gives (taken_values b bytes column (widths_at c a k) s at (length s)) (λ vs n. (length vs ≡ k) × Values a vs at n)
    unfolding taken_values widths_at
    values_again_lem column a zero at = gives_got _ _ (refl, values_none a at)
    values_again_lem column a (suc k) at =
        gives_on _ (record_gives b (bad_clustering bytes column (get_or c (a + 3) 0)) s at (length s)) (λ i m g.
        gives_on _ (values_again_lem (column + 1) (a + 16) k m) (λ vs n h.
        gives_got _ _ (omega (arith, h.0), values_next b column (get_or c (a + 3) 0) a vs at i m n g h.1)))

    -- those of a marker
    pub prefix_again_lem : (column a k at : ℕ) → Gives (taken_prefix b bytes column (widths_at c a k) s at (length s)) (λ vs n. (length vs ≤ k) × Values a vs at n)
    unfolding taken_prefix widths_at
    prefix_again_lem column a zero at = gives_got _ _ (omega arith, values_none a at)
    prefix_again_lem column a (suc k) at =
        gives_pick (eqb (get_or s at 0) 5)
        (λ e.
        gives_on _ (record_gives b (bad_clustering bytes column (get_or c (a + 3) 0)) s at (length s)) (λ i m g.
        gives_on _ (prefix_again_lem (column + 1) (a + 16) k m) (λ vs n h.
        gives_got _ _ (omega (arith, h.0), values_next b column (get_or c (a + 3) 0) a vs at i m n g h.1))))
        (λ e. gives_got _ _ (omega arith, values_none a at))

-- ---- cells
cell_column_lem : (bytes : List ℕ) (column w : ℕ) (i : Item) → bad_cell bytes column w i ≡ false → i.column ≡ column
unfolding bad_cell
cell_column_lem bytes column w i e = alike _ _ (not_first (unlike i.column column) _ (not_second (bad_cell_flags i.flags) _ (not_second (unlike i.kind 6) _ e)))

module _ (b : Bases) (c : List ℕ) (base : ℕ) (bytes s : List ℕ) where
  -- the cells cs of k columns, whose records stand from a on, which end at n
  pub record Cells (a k : ℕ) (cs : List (Option Cell)) (at n : ℕ) : Type 0 where
    pub many : ℕ
    pub place : n ≡ at + 64 * many
    pub there : CellsThere c base bytes s at many
    pub form : (row : Times) → cells_bytes b row (widths_at c a k) (show_cells bytes cs) ≡ cells_again b row c base bytes s at many

  cells_none : (a at : ℕ) → Cells a 0 [] at at
  unfolding cells_bytes widths_at cells_again
  cells_none a at = record {
    many = 0;
    place = omega arith;
    there = record { within = λ i l. absurd (omega arith); known = λ i l. absurd (omega arith); lie = λ i l. absurd (omega arith) };
    form = λ row. refl;
  }

  cells_there : (at k : ℕ) → at + 64 ≤ length s → base + 16 * (item_of s at).column + 16 ≤ length c
      → (cell_of (item_of s at)).value.start + (cell_of (item_of s at)).value.len ≤ length bytes → CellsThere c base bytes s (at + 64) k → CellsThere c base bytes s at (suc k)
  cells_there at k w u l h = record { within = λ i m. inside i m; known = λ i m. knows i m; lie = λ i m. lies i m }
    where
      inside : (i : ℕ) → i < suc k → at + 64 * i + 64 ≤ length s
      inside zero m = omega arith
      inside (suc i) m = omega (arith, h.within i (omega arith))

      knows : (i : ℕ) → i < suc k → base + 16 * (item_of s (at + 64 * i)).column + 16 ≤ length c
      knows zero m = let e : at + 64 * 0 ≡ at = omega arith in rw e u
      knows (suc i) m = let e : at + 64 * suc i ≡ at + 64 + 64 * i = omega arith in rw e (h.known i (omega arith))

      lies : (i : ℕ) → i < suc k → (cell_of (item_of s (at + 64 * i))).value.start + (cell_of (item_of s (at + 64 * i))).value.len ≤ length bytes
      lies zero m = let e : at + 64 * 0 ≡ at = omega arith in rw e l
      lies (suc i) m = let e : at + 64 * suc i ≡ at + 64 + 64 * i = omega arith in rw e (h.lie i (omega arith))

  cells_some : (a k : ℕ) (cs : List (Option Cell)) (at n : ℕ) → at + 64 ≤ length s → a + 16 ≤ length c → a ≡ base + 16 * (item_of s at).column
      → (cell_of (item_of s at)).value.start + (cell_of (item_of s at)).value.len ≤ length bytes → Cells (a + 16) k cs (at + 64) n → Cells a (suc k) (some (cell_of (item_of s at)) ∷ cs) at n
  unfolding cells_bytes widths_at cells_again cell_again
  cells_some a k cs at n w u e l h = record {
    many = suc h.many;
    place = omega (arith, h.place);
    there = cells_there at h.many w (omega arith) l h.there;
    form = λ row.
        ap (λ (x : List ℕ). x ++ cells_bytes b row (widths_at c (a + 16) k) (show_cells bytes cs)) (form_place b row (get_or c (a + 3) 0) (cell_of (item_of s at)) _)
        ∙ ap (λ (x : List ℕ). cell_bytes b row (get_or c (a + 3) 0) (cell_of (item_of s at)) (show_value bytes (cell_of (item_of s at)).value) ++ x) (h.form row)
        ∙ ap (λ (x : ℕ). cell_bytes b row (get_or c (x + 3) 0) (cell_of (item_of s at)) (show_value bytes (cell_of (item_of s at)).value) ++ cells_again b row c base bytes s (at + 64) h.many) e;
  }

  cells_skip : (a k : ℕ) (cs : List (Option Cell)) (at n : ℕ) → Cells (a + 16) k cs at n → Cells a (suc k) (none ∷ cs) at n
  unfolding cells_bytes widths_at
  cells_skip a k cs at n h = record { many = h.many; place = h.place; there = h.there; form = h.form }

  cells_next : (column w a k : ℕ) (cs : List (Option Cell)) (at : ℕ) (i : Item) (m n : ℕ) → Good b (bad_cell bytes column w) s at (length s) i m → a + 16 ≤ length c → a ≡ base + 16 * column
      → Cells (a + 16) k cs m n → Cells a (suc k) (some (cell_of i) ∷ cs) at n
  cells_next column w a k cs at i m n g u e h =
      let f = g.is in
      let o : (item_of s at).column ≡ column = rw f at (cell_column_lem bytes column w i g.right) in
      let l : (cell_of (item_of s at)).value.start + (cell_of (item_of s at)).value.len ≤ length bytes = rw f at (cell_lies bytes column w i g.right) in
      rw f (cells_some a k cs at n (omega (arith, g.next, g.within)) u (rw o e) l (rw g.next at h))

  pub cells_again_lem : (column a k at : ℕ) → a ≡ base + 16 * column → a + 16 * k ≤ length c → Gives (taken_cells b bytes column (widths_at c a k) s at (length s)) (λ cs n. Cells a k cs at n)
  unfolding taken_cells widths_at
  cells_again_lem column a zero at e l = gives_got _ _ (cells_none a at)
  cells_again_lem column a (suc k) at e l =
      gives_pick (is_cell column s at)
      (λ d.
      gives_on _ (record_gives b (bad_cell bytes column (get_or c (a + 3) 0)) s at (length s)) (λ i m g.
      gives_on _ (cells_again_lem (column + 1) (a + 16) k m (omega arith) (omega arith)) (λ cs n h.
      gives_got _ _ (cells_next column (get_or c (a + 3) 0) a k cs at i m n g (omega arith) e h))))
      (λ d. gives_on _ (cells_again_lem (column + 1) (a + 16) k at (omega arith) (omega arith)) (λ cs n h. gives_got _ _ (cells_skip a k cs at n h)))
