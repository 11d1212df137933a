-- The records that list what was read are taken again, in turn. Assumes nothing.
use mathlib.Core.Path.{◌≡◌, refl, subst, ap, ◌∙◌}
use mathlib.Core.Bool.{Bool, true, false}
use mathlib.Core.List.{List, [], ◌∷◌, ◌++◌}
use mathlib.Core.Option.{Option, none, some}
use Prim.Native.Nat.{ℕ, zero, suc, ◌+◌, ◌^◌, ◌≤◌, ◌<◌}
use native.Mathlib.Omega.{arith}
use borrow.Author.Tests.{eq-eqb, ne_eqb}
use lib.Dec.{eqb}
use lib.ListN.{length, get_or, take}
use Rattle.common.specs.Choose.{pick}
use Rattle.common.specs.declared.times.Bases.{Bases}
use Rattle.common.proofs.RoundTrip.{Reads, reads_got, reads_at, reads_yes, reads_no, reads_to}
use Rattle.common.proofs.Stands.{Stands, stands_left, stands_right}
use Rattle.data_field.specs.declared.fields.Span.{Span}
use Rattle.data_cell.specs.declared.cells.Times.{Times}
use Rattle.data_cell.specs.declared.cells.Cell.{Cell}
use Rattle.data_cell.proofs.Gives.{TimesIn}
use Rattle.data_clustering.proofs.Gives.{ValuesIn}
use Rattle.data_items.specs.Items.{value_item, cell_item}
use Rattle.data_items.specs.declared.Item.{Item}
use Rattle.data_contents.specs.Contents.{values_listed, cells_listed}
use Rattle.data_contents.proofs.Gives.{CellsIn}
use Rattle.list_call.specs.Records.{record_of, records_of}
use Rattle.list_call.proofs.Loops.{length_record_of}
use Rattle.write_accept.specs.Records.{record_at}
use Rattle.write_accept.specs.Tests.{bad_clustering, bad_cell}
use Rattle.write_accept.specs.Entries.{taken_values, taken_prefix, is_cell, taken_cells}
use Rattle.write_accept.proofs.Spelled.{kind_back, column_back, record_back}
use Rattle.write_accept.proofs.Sound.{value_sound, value_same, cell_sound, cell_same, value_kind, cell_kind, cell_column_lem}

-- columns that have a width
abbrev pub Wide : List ℕ → Type 0
Wide [] = Unit
Wide (w ∷ ws) = (1 ≤ w) × Wide ws

pub records_both : (l m : List Item) → records_of (l ++ m) ≡ records_of l ++ records_of m
unfolding records_of
records_both [] m = refl
records_both (i ∷ l) m = rw (records_both l m, append_assoc (record_of i) (records_of l) (records_of m))
  where
    append_assoc : (a b c : List ℕ) → (a ++ b) ++ c ≡ a ++ (b ++ c)
    append_assoc [] b c = refl
    append_assoc (x ∷ a) b c = ap (λ (z : List ℕ). x ∷ z) (append_assoc a b c)

cells_length : (d : List ℕ) (b : Bases) (row : Times) (ws : List ℕ) (cs : List (Option Cell)) → CellsIn d b row ws cs → length cs ≡ length ws
cells_length d b row [] [] g = refl
cells_length d b row [] (x ∷ cs) g = absurd (omega arith)
cells_length d b row (w ∷ ws) [] g = absurd (omega arith)
cells_length d b row (w ∷ ws) (none ∷ cs) g = ap suc (cells_length d b row ws cs g)
cells_length d b row (w ∷ ws) (some c ∷ cs) g = ap suc (cells_length d b row ws cs g.1)

module _ (s : List ℕ) (end : ℕ) where
  pub stands_none : (at n : ℕ) → Stands s end at n (records_of []) → at ≡ n
  unfolding records_of
  stands_none at n h = omega (arith, h.stop)

  pub stands_first : (at n : ℕ) (i : Item) (l : List Item) → Stands s end at n (records_of (i ∷ l)) → Stands s end at (at + 64) (record_of i)
  unfolding records_of
  stands_first at n i l h = subst (λ k. Stands s end at (at + k) (record_of i)) (length_record_of i) (stands_left s end at n (record_of i) (records_of l) h)

  pub stands_rest : (at n : ℕ) (i : Item) (l : List Item) → Stands s end at n (records_of (i ∷ l)) → Stands s end (at + 64) n (records_of l)
  unfolding records_of
  stands_rest at n i l h = subst (λ k. Stands s end (at + k) n (records_of l)) (length_record_of i) (stands_right s end at n (record_of i) (records_of l) h)

  -- where the second of two lists of records begins
  pub record Two (at n : ℕ) (l m : List Item) : Type 0 where
    pub middle : ℕ
    pub first : Stands s end at middle (records_of l)
    pub second : Stands s end middle n (records_of m)

  pub stands_two : (at n : ℕ) (l m : List Item) → Stands s end at n (records_of (l ++ m)) → Two at n l m
  stands_two at n l m h =
      let k = subst (Stands s end at n) (records_both l m) h in
      record {
        middle = at + length (records_of l);
        first = stands_left s end at n (records_of l) (records_of m) k;
        second = stands_right s end at n (records_of l) (records_of m) k;
      }

  module _ (b : Bases) (d : List ℕ) (short : length d < 2 ^ 64) where
    -- ---- clustering values
    value_back : (column w : ℕ) (v : Span) (at n : ℕ) (l : List Item) → column < 256 → 1 ≤ w → ValuesIn d (w ∷ []) (v ∷ []) → Stands s end at n (records_of (value_item column v ∷ l))
        → Reads (record_at b (bad_clustering d column w) s at end) (at + 64) (λ i. i ≡ value_item column v)
    value_back column w v at n l c k g h =
        record_back b (bad_clustering d column w) s end at (at + 64) (value_item column v) (value_sound d short b column w v c k g.0) (stands_first at n _ l h)

    pub values_back : (column : ℕ) (ws : List ℕ) (vs : List Span) (at n : ℕ) → column + length ws ≤ 256 → Wide ws → ValuesIn d ws vs → Stands s end at n (records_of (values_listed column vs))
        → Reads (taken_values b d column ws s at end) n (λ us. us ≡ vs)
    unfolding taken_values
    values_back column [] [] at n c k g h = reads_to (stands_none at n h) (reads_got [] at refl)
    values_back column [] (v ∷ vs) at n c k g h = absurd (omega arith)
    values_back column (w ∷ ws) [] at n c k g h = absurd (omega arith)
    values_back column (w ∷ ws) (v ∷ vs) at n c k g h =
        reads_at _ (value_back column w v at n _ (omega arith) k.0 (g.0, tt) h)
        (reads_at _ (values_back (column + 1) ws vs (at + 64) n (omega arith) k.1 g.1 (stands_rest at n _ _ h))
        (reads_got _ n (ap (λ (z : Span). z ∷ vs) (value_same d short column v))))

    -- of the first columns, where no value follows
    pub prefix_back : (column : ℕ) (ws : List ℕ) (count : ℕ) (vs : List Span) (at n : ℕ) → column + length ws ≤ 256 → Wide ws → ValuesIn d (take count ws) vs → eqb (get_or s n 0) 5 ≡ false
        → Stands s end at n (records_of (values_listed column vs)) → Reads (taken_prefix b d column ws s at end) n (λ us. us ≡ vs)
    unfolding taken_prefix
    prefix_back column [] zero [] at n c k g e h = reads_to (stands_none at n h) (reads_got [] at refl)
    prefix_back column [] zero (v ∷ vs) at n c k g e h = absurd (omega arith)
    prefix_back column [] (suc count) [] at n c k g e h = reads_to (stands_none at n h) (reads_got [] at refl)
    prefix_back column [] (suc count) (v ∷ vs) at n c k g e h = absurd (omega arith)
    prefix_back column (w ∷ ws) zero [] at n c k g e h =
        let q = stands_none at n h in
        reads_no _ _ (rw q e) (reads_to q (reads_got [] at refl))
    prefix_back column (w ∷ ws) zero (v ∷ vs) at n c k g e h = absurd (omega arith)
    prefix_back column (w ∷ ws) (suc count) [] at n c k g e h = absurd (omega arith)
    prefix_back column (w ∷ ws) (suc count) (v ∷ vs) at n c k g e h =
        reads_yes _ _ (eq-eqb (get_or s at 0) 5 (kind_back s end at (at + 64) _ (stands_first at n _ _ h) (value_few column v) ∙ value_kind column v))
        (reads_at _ (value_back column w v at n _ (omega arith) k.0 (g.0, tt) h)
        (reads_at _ (prefix_back (column + 1) ws count vs (at + 64) n (omega arith) k.1 g.1 e (stands_rest at n _ _ h))
        (reads_got _ n (ap (λ (z : Span). z ∷ vs) (value_same d short column v)))))
      where
        value_few : (column : ℕ) (v : Span) → (value_item column v).kind < 256
        value_few column v = omega (arith, value_kind column v)

    -- ---- cells
    cell_first : (column : ℕ) (x : Cell) (at n : ℕ) (l : List Item) → Stands s end at n (records_of (cell_item column x ∷ l)) → get_or s at 0 ≡ 6
    cell_first column x at n l h = kind_back s end at (at + 64) _ (stands_first at n _ l h) (omega (arith, cell_kind column x)) ∙ cell_kind column x

    cell_second : (column : ℕ) (x : Cell) (at n : ℕ) (l : List Item) → column < 256 → Stands s end at n (records_of (cell_item column x ∷ l)) → get_or s (at + 2) 0 ≡ column
    cell_second column x at n l c h = column_back s end at (at + 64) _ (stands_first at n _ l h) (omega (arith, cell_column_lem column x)) ∙ cell_column_lem column x

    cell_yes : (column at : ℕ) → get_or s at 0 ≡ 6 → get_or s (at + 2) 0 ≡ column → is_cell column s at ≡ true
    unfolding is_cell pick
    cell_yes column at e f = rw (e, f) (eq-eqb column column refl)

    cell_other : (c column at : ℕ) → get_or s (at + 2) 0 ≡ column → c < column → is_cell c s at ≡ false
    unfolding is_cell pick
    cell_other c column at e l = go (eqb (get_or s at 0) 6)
      where
        go : (t : Bool) → pick t (eqb (get_or s (at + 2) 0) c) false ≡ false
        go true = rw e (ne_eqb column c (λ f. omega arith))
        go false = refl

    cell_no : (c at : ℕ) → eqb (get_or s at 0) 6 ≡ false → is_cell c s at ≡ false
    unfolding is_cell pick
    cell_no c at e = rw e refl

    -- what follows a missing cell is no cell of its column
    cell_missing : (c column : ℕ) (cs : List (Option Cell)) (at n : ℕ) → c < column → column + length cs ≤ 256 → eqb (get_or s n 0) 6 ≡ false → Stands s end at n (records_of (cells_listed column cs)) → is_cell c s at ≡ false
    cell_missing c column [] at n l m e h = cell_no c at (rw (stands_none at n h) e)
    cell_missing c column (none ∷ cs) at n l m e h = cell_missing c (column + 1) cs at n (omega arith) (omega arith) e h
    cell_missing c column (some x ∷ cs) at n l m e h = cell_other c column at (cell_second column x at n _ (omega arith) h) l

    pub cells_back : (row : Times) → TimesIn b row → (column : ℕ) (ws : List ℕ) (cs : List (Option Cell)) (at n : ℕ) → column + length ws ≤ 256 → Wide ws → CellsIn d b row ws cs → eqb (get_or s n 0) 6 ≡ false
        → Stands s end at n (records_of (cells_listed column cs)) → Reads (taken_cells b d column ws s at end) n (λ us. us ≡ cs)
    unfolding taken_cells
    cells_back row r column [] [] at n c k g e h = reads_to (stands_none at n h) (reads_got [] at refl)
    cells_back row r column [] (x ∷ cs) at n c k g e h = absurd (omega arith)
    cells_back row r column (w ∷ ws) [] at n c k g e h = absurd (omega arith)
    cells_back row r column (w ∷ ws) (none ∷ cs) at n c k g e h =
        reads_no _ _ (cell_missing column (column + 1) cs at n (omega arith) (omega (arith, cells_length d b row ws cs g)) e h)
        (reads_at _ (cells_back row r (column + 1) ws cs at n (omega arith) k.1 g e h)
        (reads_got _ n refl))
    cells_back row r column (w ∷ ws) (some x ∷ cs) at n c k g e h =
        reads_yes _ _ (cell_yes column at (cell_first column x at n _ h) (cell_second column x at n _ (omega arith) h))
        (reads_at _ (record_back b (bad_cell d column w) s end at (at + 64) (cell_item column x) (cell_sound d short b column w x (omega arith) (g.0.fits r) g.0.value k.0) (stands_first at n _ _ h))
        (reads_at _ (cells_back row r (column + 1) ws cs (at + 64) n (omega arith) k.1 g.1 e (stands_rest at n _ _ h))
        (reads_got _ n (ap (λ (z : Cell). some z ∷ cs) (cell_same d short b column w x (omega arith) (g.0.fits r) g.0.value k.0)))))
