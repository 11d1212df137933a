-- Columns that have no cell are skipped: the next cell names its own. Assumes nothing.
use mathlib.Core.Path.{◌≡◌, refl, sym, ap, ◌∙◌}
use mathlib.Core.Bool.{Bool, true, false}
use mathlib.Core.List.{List, [], ◌∷◌}
use mathlib.Core.Option.{Option, none, some}
use Prim.Native.Nat.{ℕ, zero, suc, ◌+◌, ◌*◌, ◌≤◌, ◌<◌}
use native.Mathlib.Omega.{arith}
use borrow.Author.Tests.{eq-eqb, ne_eqb}
use lib.Dec.{eqb}
use lib.ListN.{length, get_or, get_or-eq_default}
use Rattle.common.specs.Choose.{pick}
use Rattle.common.specs.Got.{Got, got, bad, on}
use Rattle.common.specs.declared.times.Bases.{Bases}
use Rattle.data_cell.specs.declared.cells.Cell.{Cell}
use Rattle.data_clustering.specs.Prefixes.{widths_at}
use Rattle.list_count.proofs.Follows.{on_on}
use Rattle.write_accept.specs.Records.{record_at}
use Rattle.write_accept.specs.Tests.{bad_cell}
use Rattle.write_accept.specs.Entries.{cell_of, is_cell, taken_cells}
use Rattle.write_measure_parts.specs.Lengths.{cell_column}

-- ---- a byte, 0 past the end
pub byte_past : (s : List ℕ) (at : ℕ) → length s ≤ at → 0 ≡ get_or s at 0
byte_past s at h = sym (get_or-eq_default s 0 h)

pub byte_is : (r x n : ℕ) → r ≡ x → r ≡ n → eqb x n ≡ true
byte_is r x n e f = eq-eqb x n (sym e ∙ f)

pub byte_other : (r x n : ℕ) → r ≡ x → (r ≡ n → ⊥) → eqb x n ≡ false
byte_other r x n e f = ne_eqb x n (λ g. f (e ∙ g))

pub ruleset single = (byte_past, byte_is, byte_other)

-- ---- the column of the cell at p
module _ (s : List ℕ) (p j : ℕ) (e : j ≡ cell_column s p) where
  pub cell_here : j < 256 → is_cell j s p ≡ true
  unfolding cell_column is_cell pick
  cell_here l = go (eqb (get_or s p 0) 6) e
    where
      go : (t : Bool) → j ≡ pick t (get_or s (p + 2) 0) 256 → pick t (eqb (get_or s (p + 2) 0) j) false ≡ true
      go true f = eq-eqb (get_or s (p + 2) 0) j (sym f)
      go false f = absurd (omega arith)

  pub cell_other : (i : ℕ) → (i ≡ j → ⊥) → is_cell i s p ≡ false
  unfolding cell_column is_cell pick
  cell_other i h = go (eqb (get_or s p 0) 6) e
    where
      go : (t : Bool) → j ≡ pick t (get_or s (p + 2) 0) 256 → pick t (eqb (get_or s (p + 2) 0) i) false ≡ false
      go true f = ne_eqb (get_or s (p + 2) 0) i (λ g. h (sym g ∙ sym f))
      go false f = refl

-- d columns without a cell
abbrev pub nones : ℕ → List (Option Cell) → List (Option Cell)
nones zero cs = cs
nones (suc d) cs = none ∷ nones d cs

on_itself : {A : Type 0} (x : Got A) → x ≡ on x (λ a n. got a n)
unfolding on
on_itself (got a n) = refl
on_itself (bad f p) = refl

module _ (b : Bases) (bytes c s : List ℕ) (end : ℕ) where
  -- the cells of the r columns from column i on, whose records stand in the schema from a on
  abbrev pub Cells : ℕ → ℕ → ℕ → ℕ → Got (List (Option Cell))
  Cells i a r p = taken_cells b bytes i (widths_at c a r) s p end

  pub cells_last : (i a p : ℕ) → Cells i a 0 p ≡ got [] p
  unfolding taken_cells widths_at
  cells_last i a p = refl

  pub cells_none : (i a r p : ℕ) → is_cell i s p ≡ false → Cells i a (suc r) p ≡ on (Cells (i + 1) (a + 16) r p) (λ cs m. got (none ∷ cs) m)
  unfolding taken_cells widths_at pick
  cells_none i a r p e = rw e

  pub cells_some : (i a r p : ℕ) → is_cell i s p ≡ true
      → Cells i a (suc r) p ≡ on (record_at b (bad_cell bytes i (get_or c (a + 3) 0)) s p end) (λ x n. on (Cells (i + 1) (a + 16) r n) (λ cs m. got (some (cell_of x) ∷ cs) m))
  unfolding taken_cells widths_at pick
  cells_some i a r p e = rw e

  -- d columns without a cell, before r more
  pub cells_skip : (d i a r p : ℕ) → ((e : ℕ) → e < d → is_cell (i + e) s p ≡ false) → Cells i a (d + r) p ≡ on (Cells (i + d) (a + 16 * d) r p) (λ cs m. got (nones d cs) m)
  unfolding on
  cells_skip zero i a r p h =
      let e : i + 0 ≡ i = omega arith in
      let f : a + 16 * 0 ≡ a = omega arith in
      let g : 0 + r ≡ r = omega arith in
      rw (e, f, g) (on_itself (Cells i a r p))
  cells_skip (suc d) i a r p h =
      let z : i + 0 ≡ i = omega arith in
      let y : suc d + r ≡ suc (d + r) = omega arith in
      ap (λ (k : ℕ). Cells i a k p) y
      ∙ cells_none i a (d + r) p (rw z at (h 0 (omega arith)))
      ∙ ap (λ x. on x (λ cs m. got (none ∷ cs) m)) (cells_skip d (i + 1) (a + 16) r p (λ k l. let g : i + suc k ≡ i + 1 + k = omega arith in rw g at (h (suc k) (omega arith))))
      ∙ on_on (Cells (i + 1 + d) (a + 16 + 16 * d) r p) _ _
      ∙ same
    where
      same : on (Cells (i + 1 + d) (a + 16 + 16 * d) r p) (λ cs m. on (got (nones d cs) m) (λ cs m. got (none ∷ cs) m)) ≡ on (Cells (i + suc d) (a + 16 * suc d) r p) (λ cs m. got (nones (suc d) cs) m)
      same =
          let e : i + 1 + d ≡ i + suc d = omega arith in
          let f : a + 16 + 16 * d ≡ a + 16 * suc d = omega arith in
          rw (e, f) refl
