-- Every item that is listed lies in Data: the key or value that it shows, or the whole item. Assumes nothing.
use mathlib.Core.Path.{◌≡◌, refl, sym, subst, ◌∙◌}
use mathlib.Core.List.{List, [], ◌∷◌, ◌++◌}
use mathlib.Core.Option.{Option, none, some}
use Prim.Native.Nat.{ℕ, ◌+◌, ◌≤◌, ◌<◌}
use native.Mathlib.Omega.{arith}
use lib.Dec.{eqb}
use lib.ListN.{length, take}
use Rattle.common.specs.Choose.{bind}
use Rattle.common.specs.Got.{Got, got, bad}
use Rattle.common.specs.Refusals.{taken}
use Rattle.common.proofs.Choose.{pick_ind}
use Rattle.common.specs.declared.times.Bases.{Bases}
use Rattle.data_field.specs.Fields.{live}
use Rattle.data_field.specs.declared.fields.Deletion.{Deletion}
use Rattle.data_field.specs.declared.fields.Span.{Span}
use Rattle.data_cell.specs.declared.cells.Times.{Times}
use Rattle.data_cell.specs.declared.cells.Cell.{Cell}
use Rattle.data_clustering.proofs.Gives.{ValuesIn}
use Rattle.data_row.specs.declared.rows.Row.{Row}
use Rattle.data_marker.specs.declared.markers.Marker.{Marker}
use Rattle.schema_check.specs.declared.records.Counts.{Counts}
use Rattle.data_items.specs.Items.{partition_item, row_item, marker_item, value_item, cell_item, end_item}
use Rattle.call_check.specs.Tables.{Table}
use Rattle.data_walk.specs.Walks.{start, walk_from}
use Rattle.data_items.specs.declared.Item.{Item}
use Rattle.data_contents.specs.Contents.{Widths, widths_of, Entry, static_entry, row_entry, marker_entry, Contents, open_behind, contents_at, values_listed, cells_listed, entry_listed, entries_listed, partition_listed, listed, listing, contents_of}
use Rattle.data_contents.proofs.Gives.{CellsIn, RowIn, EntryIn, EntriesIn, ContentsIn, AllIn, row_placed, entry_moves, partition_moves, contents_give}
use Rattle.data_contents.proofs.Lists.{walk_lists}

module _ (s : List ℕ) where
  -- an item's place is in Data
  abbrev pub Lies : Item → Type 0
  Lies i = i.offset + i.length ≤ length s

  abbrev pub AllLie : List Item → Type 0
  AllLie [] = Unit
  AllLie (i ∷ l) = Lies i × AllLie l

  lie_both : (l m : List Item) → AllLie l → AllLie m → AllLie (l ++ m)
  lie_both [] m h k = k
  lie_both (i ∷ l) m h k = (h.0, lie_both l m h.1 k)

  -- ---- one item
  row_lies : (kind : ℕ) (r : Row) → r.start ≤ r.body.stop → r.body.stop ≤ length s → Lies (row_item kind r)
  unfolding row_item bind
  row_lies kind r h k = omega arith

  marker_lies : (m : Marker) (n : ℕ) → m.start ≤ n → n ≤ length s → Lies (marker_item m n)
  unfolding marker_item bind
  marker_lies m n h k = omega arith

  value_lies : (i : ℕ) (v : Span) → v.start + v.len ≤ length s → Lies (value_item i v)
  unfolding value_item bind
  value_lies i v h = h

  cell_lies : (i : ℕ) (x : Cell) → x.value.start + x.value.len ≤ length s → Lies (cell_item i x)
  unfolding cell_item bind
  cell_lies i x h = pick_ind Lies _ _ (eqb x.kind 2) (λ e. omega arith) (λ e. h)

  end_lies : (p : ℕ) → p < length s → Lies (end_item p)
  unfolding end_item
  end_lies p h = omega arith

  -- ---- lists of them
  values_lie : (ws : List ℕ) (i : ℕ) (vs : List Span) → ValuesIn s ws vs → AllLie (values_listed i vs)
  values_lie ws i [] h = tt
  values_lie [] i (v ∷ vs) h = absurd (omega arith)
  values_lie (w ∷ ws) i (v ∷ vs) h = (value_lies i v h.0.lies, values_lie ws (i + 1) vs h.1)

  cells_lie : (b : Bases) (row : Times) (ws : List ℕ) (i : ℕ) (cs : List (Option Cell)) → CellsIn s b row ws cs → AllLie (cells_listed i cs)
  cells_lie b row ws i [] h = tt
  cells_lie b row [] i (x ∷ cs) h = absurd (omega arith)
  cells_lie b row (w ∷ ws) i (none ∷ cs) h = cells_lie b row ws (i + 1) cs h
  cells_lie b row (w ∷ ws) i (some x ∷ cs) h = (cell_lies i x h.0.value.lies, cells_lie b row ws (i + 1) cs h.1)

  module _ (t : Widths) (b : Bases) (end : ℕ) (inside : end ≤ length s) where
    row_in : (kind at : ℕ) (ws : List ℕ) (r : Row) (cs : List (Option Cell)) (n : ℕ) → RowIn t b s at end ws r cs n → Lies (row_item kind r)
    row_in kind at ws r cs n g =
        let p = row_placed _ _ _ _ _ _ _ r g.first g.row in
        row_lies kind r (omega (arith, g.row.start, p.past, p.within)) (omega (arith, p.stops))

    entry_lies : (opened : Deletion) (at : ℕ) (e : Entry) (n : ℕ) → EntryIn t b s opened at end e n → AllLie (entry_listed e)
    entry_lies opened at (static_entry r cs) n g = (row_in 2 at t.statics r cs n g.1, cells_lie b r.body.times t.statics 0 cs g.1.cells)
    entry_lies opened at (row_entry r vs cs) n g =
        (row_in 3 at t.regulars r cs n g.2, lie_both (values_listed 0 vs) (cells_listed 0 cs) (values_lie t.clustering 0 vs g.1) (cells_lie b r.body.times t.regulars 0 cs g.2.cells))
    entry_lies opened at (marker_entry m q vs) n g =
        let h = entry_moves t b s at end opened (marker_entry m q vs) n g in
        (marker_lies m q (omega (arith, g.0, g.2.start, h.past)) (omega (arith, g.0, h.within)), values_lie (take m.count t.clustering) 0 vs g.1)

    entries_lie : (opened : Deletion) (at : ℕ) (es : List Entry) (p : ℕ) → p < end → EntriesIn t b s end opened at es p → AllLie (entries_listed es p)
    entries_lie opened at [] p h g = (end_lies p (omega arith), tt)
    entries_lie opened at (e ∷ es) p h g = lie_both (entry_listed e) (entries_listed es p) (entry_lies opened at e g.0 g.1.0) (entries_lie (open_behind opened e) g.0 es p h g.1.1)

    partition_lies : (at : ℕ) (x : Contents) (n : ℕ) → ContentsIn t b s at end x n → AllLie (partition_listed x)
    unfolding partition_item bind
    partition_lies at x n g = (((partition_moves s end at).given x.header g.first g.header).1, entries_lie live g.first x.entries x.end g.ended.within g.entries)

    all_lie : (at : ℕ) (xs : List Contents) → AllIn t b s end at xs → AllLie (listed xs)
    all_lie at [] g = tt
    all_lie at (x ∷ xs) g = lie_both (partition_listed x) (listed xs) (partition_lies at x g.0 g.1.0) (all_lie g.0 xs g.1.1)

-- "Offset and length show key or value in the bytes lent beside .., else the whole item": every place is in Data
pub contents_within : (c : List ℕ) (k : Counts) (b : Bases) (s : List ℕ) (l : List Item) → contents_of c k b s ≡ taken l → AllLie s l
unfolding contents_of listing
contents_within c k b s l e = go (contents_at (widths_of c k) b s 0 (length s)) refl e
  where
    go : (x : Got (List Contents)) → contents_at (widths_of c k) b s 0 (length s) ≡ x → listing x ≡ taken l → AllLie s l
    go (got xs n) d f =
        let z : listed xs ≡ l = cc in
        subst (AllLie s) z (all_lie s (widths_of c k) b (length s) (omega arith) 0 xs ((contents_give (widths_of c k) b s 0 (length s) (omega arith)).given xs n d).0)
    go (bad y p) d f = let z : ◌≡◌ {A = ℕ} 0 1 = cc in absurd (omega arith)

pub walk_within : (c : List ℕ) (k : Counts) (b : Bases) (s : List ℕ) (l : List Item) → Table (length c) k → walk_from c k b s start ≡ taken l → AllLie s l
walk_within c k b s l t e = contents_within c k b s l (sym (walk_lists c k b s t) ∙ e)
