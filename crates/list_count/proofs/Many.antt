-- How many items there are at most: each entry has a byte or more, and at most 32 values and 63 cells. Assumes nothing.
use mathlib.Core.Path.{◌≡◌, refl, ap}
use mathlib.Core.List.{List, [], ◌∷◌}
use mathlib.Core.Option.{Option, none, some}
use Prim.Native.Nat.{ℕ, zero, suc, ◌+◌, ◌-◌, ◌*◌, ◌≤◌}
use native.Mathlib.Omega.{arith}
use lib.ListN.{length, take, length-append}
use Rattle.common.specs.declared.times.Bases.{Bases}
use Rattle.data_field.specs.declared.fields.Deletion.{Deletion}
use Rattle.data_field.specs.declared.fields.Span.{Span}
use Rattle.data_cell.specs.declared.cells.Times.{Times}
use Rattle.data_cell.specs.declared.cells.Cell.{Cell}
use Rattle.data_clustering.proofs.Gives.{ValuesIn}
use Rattle.data_clustering.proofs.Loops.{widths_count}
use Rattle.schema_check.specs.declared.records.Counts.{Counts}
use Rattle.call_check.specs.Tables.{Table}
use Rattle.data_contents.specs.Contents.{Widths, widths_of, Entry, static_entry, row_entry, marker_entry, open_behind, values_listed, cells_listed, entry_listed, entries_listed}
use Rattle.data_contents.proofs.Gives.{CellsIn, EntryIn, EntriesIn, entry_moves}

pub many_values : (i : ℕ) (vs : List Span) → length (values_listed i vs) ≡ length vs
many_values i [] = refl
many_values i (v ∷ vs) = ap suc (many_values (i + 1) vs)

pub values_count : (s ws : List ℕ) (vs : List Span) → ValuesIn s ws vs → length vs ≡ length ws
values_count s [] [] h = refl
values_count s [] (v ∷ vs) h = absurd (omega arith)
values_count s (w ∷ ws) [] h = absurd (omega arith)
values_count s (w ∷ ws) (v ∷ vs) h = ap suc (values_count s ws vs h.1)

cells_most : (s : List ℕ) (b : Bases) (row : Times) (i : ℕ) (ws : List ℕ) (cs : List (Option Cell)) → CellsIn s b row ws cs → length (cells_listed i cs) ≤ length ws
cells_most s b row i [] [] h = omega arith
cells_most s b row i [] (x ∷ cs) h = absurd (omega arith)
cells_most s b row i (w ∷ ws) [] h = absurd (omega arith)
cells_most s b row i (w ∷ ws) (none ∷ cs) h = let l = cells_most s b row (i + 1) ws cs h in omega arith
cells_most s b row i (w ∷ ws) (some x ∷ cs) h = let l = cells_most s b row (i + 1) ws cs h.1 in omega arith

-- a table whose columns are not too many
pub record Few (t : Widths) : Type 0 where
  pub clustering : length t.clustering ≤ 32
  pub statics : length t.statics ≤ 63
  pub regulars : length t.regulars ≤ 63

pub table_few : (c : List ℕ) (k : Counts) → Table (length c) k → Few (widths_of c k)
unfolding widths_of
table_few c k h = record {
  clustering = omega (arith, widths_count c 16 k.clustering, h.clustering);
  statics = omega (arith, widths_count c (16 + 16 * k.clustering) k.statics, h.statics);
  regulars = omega (arith, widths_count c (16 + 16 * (k.clustering + k.statics)) k.regulars, h.regulars);
}

module _ (t : Widths) (few : Few t) (b : Bases) (s : List ℕ) (end : ℕ) where
  pub entry_most : (opened : Deletion) (at : ℕ) (e : Entry) (n : ℕ) → EntryIn t b s opened at end e n → length (entry_listed e) ≤ 96
  entry_most opened at (static_entry r cs) n g = omega (arith, few.statics, cells_most s b r.body.times 0 t.statics cs g.1.cells)
  entry_most opened at (row_entry r vs cs) n g =
      omega (arith, few.regulars, few.clustering, length-append (values_listed 0 vs) (cells_listed 0 cs), many_values 0 vs, values_count s t.clustering vs g.1, cells_most s b r.body.times 0 t.regulars cs g.2.cells)
  entry_most opened at (marker_entry m q vs) n g =
      let l : length (take m.count t.clustering) ≤ length t.clustering = taken m.count t.clustering in
      omega (arith, few.clustering, many_values 0 vs, values_count s (take m.count t.clustering) vs g.1)
    where
      taken : (i : ℕ) (ws : List ℕ) → length (take i ws) ≤ length ws
      taken zero ws = omega arith
      taken (suc i) [] = omega arith
      taken (suc i) (w ∷ ws) = let l = taken i ws in omega arith

  -- entries up to the end byte at p
  pub record Most (at : ℕ) (es : List Entry) (p : ℕ) : Type 0 where
    pub on : at ≤ p
    pub most : length (entries_listed es p) ≤ 128 * (p - at) + 1

  pub entries_most : (opened : Deletion) (at : ℕ) (es : List Entry) (p : ℕ) → EntriesIn t b s end opened at es p → Most at es p
  entries_most opened at [] p g = record { on = omega (arith, g.1); most = omega arith }
  entries_most opened at (e ∷ es) p g =
      let h = entries_most (open_behind opened e) g.0 es p g.1.1 in
      let m = entry_moves t b s at end opened e g.0 g.1.0 in
      record {
        on = omega (arith, h.on, m.past);
        most = omega (arith, h.on, h.most, m.past, length-append (entry_listed e) (entries_listed es p), entry_most opened at e g.0 g.1.0);
      }
