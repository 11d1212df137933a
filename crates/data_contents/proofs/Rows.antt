-- The walk through a row lists what is read of it. Assumes nothing.
use mathlib.Core.Path.{◌≡◌, refl, sym, ap, ◌∙◌}
use mathlib.Core.Bool.{Bool, true, false}
use mathlib.Core.List.{List, [], ◌∷◌, ◌++◌}
use mathlib.Core.Logic.{◌⊎◌, inl, inr}
use mathlib.Core.Option.{Option}
use Prim.Native.Nat.{ℕ, zero, suc, ◌+◌, ◌*◌, ◌≤◌, ◌<◌}
use native.Mathlib.Omega.{arith}
use borrow.Author.Tests.{le-ltb, lt-leb, eq-eqb, ne_eqb}
use lib.Dec.{ltb, eqb}
use lib.ListN.{length}
use Rattle.common.specs.Choose.{pick, bind}
use Rattle.common.specs.Got.{Got, got, bad, on}
use Rattle.common.specs.Refusals.{refused}
use Rattle.common.proofs.Choose.{pick_yes, pick_no}
use Rattle.common.specs.declared.refusal.Fault.TheVariants.{LeftOver}
use Rattle.common.specs.declared.refusal.Slice.TheVariants.{Data}
use Rattle.common.specs.declared.times.Bases.{Bases}
use Rattle.data_field.specs.declared.fields.Deletion.{Deletion}
use Rattle.data_field.specs.declared.fields.Span.{Span}
use Rattle.data_cell.specs.declared.cells.Cell.{Cell}
use Rattle.data_clustering.specs.Prefixes.{bad_header, values_at, widths_at}
use Rattle.data_row.specs.Bodies.{columns}
use Rattle.data_row.specs.Rows.{row_at}
use Rattle.data_row.specs.declared.bodies.Body.{Body}
use Rattle.data_row.specs.declared.rows.Row.{Row}
use Rattle.data_row.proofs.Gives.{RestOk, RowOk, row_gives}
use Rattle.schema_check.specs.declared.records.Counts.{Counts}
use Rattle.data_items.specs.Items.{row_item}
use Rattle.data_walk.specs.Cursors.{hand, cursor, outside, bad_column, bad_values, at_items, at_cells, behind_row}
use Rattle.data_walk.specs.Steps.{Handed, bad_state, step_in, handed, row_handed, row_step, item_step, value_step, item_answer, values_answer, statics_answer, cells_answer}
use Rattle.data_walk.specs.Walks.{add, follow}
use Rattle.data_items.specs.declared.Item.{Item}
use Rattle.data_walk.specs.declared.cursors.Phase.{Phase}
use Rattle.data_walk.specs.declared.cursors.Phase.TheVariants.{First, Items, Values, Statics, Cells}
use Rattle.data_walk.specs.declared.cursors.Cursor.{Cursor}
use Rattle.call_check.specs.Tables.{Table}
use Rattle.data_contents.specs.Contents.{widths_of, Entry, static_entry, row_entry, open_behind, cells_at, body_cells_at, row_entry_at, values_listed, cells_listed, entry_listed}
use Rattle.data_contents.proofs.Follows.{Walked, adds, run, adds_none, add_adds, adds_adds, adds_pick, run_got, run_same, adds_run, run_on}
use Rattle.data_contents.proofs.Gives.{RowPlaced, row_placed, static_stands}
use Rattle.data_contents.proofs.Values.{widths_length, values_none, values_walk}
use Rattle.data_contents.proofs.Cells.{item_walk, cells_walk}

-- ---- what a region's filling asks
pick_run : (l : List (Option Cell)) (t : Bool) (q : ℕ) (g : List (Option Cell) → ℕ → Walked) → run (pick t (bad LeftOver q) (got l q)) g ≡ pick t (refused LeftOver Data q) (g l q)
unfolding run pick
pick_run l true q g = refl
pick_run l false q g = refl

module _ (c s : List ℕ) (k : Counts) (b : Bases) (w : Cursor → Walked) (turns : (x : Cursor) → w x ≡ follow (step_in x.phase c k b s x) w) where
  -- the walk from an item of a partition on
  abbrev pub item_from : ℕ → Deletion → ℕ → Walked
  item_from first opened at = item_walk c s k b w first opened at

  -- the walk from a step's item on
  abbrev pub next : Handed → ℕ → Walked
  next h n = add h.0 (w h.1)

  -- ---- the cells of a row
  module _ (phase : Phase) (opened : Deletion) (count header resume : ℕ) (y : Body) (base n : ℕ) where
    pub body_walk : ((x : Cursor) → step_in phase c k b s x ≡ cells_answer c k b s x base n) → n ≤ 63 → y.present ≤ columns n → y.stop ≤ length s → (p : ℕ) → p ≤ y.stop
        → w (cursor p phase opened (hand 0 count header resume y.stop y.present y.times))
        ≡ run (body_cells_at b (widths_at c base n) y s p) (λ cs m. adds (cells_listed 0 cs) (item_from 0 opened m))
    unfolding body_cells_at
    body_walk steps few known inside p h =
        cells_walk c s k b w turns phase opened count header resume y.stop y.present y.times base n steps few known inside n 0 p y.present base (omega arith) h (omega arith) (omega arith)
        ∙ run_same (cells_at b y.times (widths_at c base n) y.present s p y.stop) _ _ (λ cs q e.
        adds_pick (cells_listed 0 cs) (ltb q y.stop) LeftOver q (item_from 0 opened q) ∙ sym (pick_run cs (ltb q y.stop) q _))
        ∙ sym (run_on (cells_at b y.times (widths_at c base n) y.present s p y.stop) _ _)

  -- ---- an item of a partition, from its phase
  pub items_turn : (opened : Deletion) (at : ℕ) → at ≤ length s → w (at_items at Items opened) ≡ item_from 0 opened at
  unfolding at_items bind step_in item_answer pick
  items_turn opened at h = turns (at_items at Items opened) ∙ ap (λ t. follow (pick t bad_state (handed (item_step c k b s 0 opened at))) w) (le-ltb (length s) at h)

  pub first_turn : (opened : Deletion) (at : ℕ) → at ≤ length s → w (at_items at First opened) ≡ item_from 1 opened at
  unfolding at_items bind step_in item_answer pick
  first_turn opened at h = turns (at_items at First opened) ∙ ap (λ t. follow (pick t bad_state (handed (item_step c k b s 1 opened at))) w) (le-ltb (length s) at h)

  -- ---- rows
  -- what follows an entry
  abbrev pub behind_entry : Deletion → Entry → ℕ → Walked
  behind_entry opened e m = adds (entry_listed e) (item_from 0 (open_behind opened e) m)

  statics_step : 0 < k.statics → (x : Cursor) → step_in Statics c k b s x ≡ cells_answer c k b s x (16 + 16 * k.clustering) k.statics
  unfolding step_in statics_answer pick
  statics_step h x = rw (ne_eqb k.statics 0 (λ e. omega arith))

  cells_step_lem : (x : Cursor) → step_in Cells c k b s x ≡ cells_answer c k b s x (16 + 16 * (k.clustering + k.statics)) k.regulars
  unfolding step_in
  cells_step_lem x = refl

  module _ (table : Table (length c) k) (opened : Deletion) (r : Row) (n : ℕ) where
    -- the cells of a static row, of a row
    abbrev static_cells_lem : Got (List (Option Cell))
    static_cells_lem = body_cells_at b (widths_at c (16 + 16 * k.clustering) k.statics) r.body s n

    abbrev row_cells : Got (List (Option Cell))
    row_cells = body_cells_at b (widths_at c (16 + 16 * (k.clustering + k.statics)) k.regulars) r.body s n

    -- what is listed before the cells that x reads
    before_cells : (i : Item) (l : List Item) (x : Got (List (Option Cell))) (f : List (Option Cell) → Entry) (o : Walked)
        → ((cs : List (Option Cell)) → entry_listed (f cs) ≡ i ∷ (l ++ cells_listed 0 cs))
        → ((cs : List (Option Cell)) → open_behind opened (f cs) ≡ opened)
        → o ≡ adds l (run x (λ cs m. adds (cells_listed 0 cs) (item_from 0 opened m)))
        → add i o ≡ run (on x (λ cs m. got (f cs) m)) (behind_entry opened)
    unfolding run
    before_cells i l x f o d g e =
        ap (add i) e
        ∙ add_adds i l _
        ∙ adds_run (i ∷ l) x _
        ∙ run_same x _ _ (λ cs m h. adds_adds (i ∷ l) (cells_listed 0 cs) (item_from 0 opened m) ∙ sym (ap (λ q. adds q (item_from 0 (open_behind opened (f cs)) m)) (d cs) ∙ ap (λ q. adds (i ∷ (l ++ cells_listed 0 cs)) (item_from 0 q m)) (g cs)))
        ∙ sym (run_on x _ _)

    static_cursor : eqb r.extended 1 ≡ true → run (row_handed k opened r n) next ≡ add (row_item 2 r) (w (cursor n Statics opened (hand 0 0 r.prefix.header n r.body.stop r.body.present r.body.times)))
    unfolding row_handed behind_row bind pick run
    static_cursor e = rw e

    bare_cursor : eqb r.extended 1 ≡ false → k.clustering ≡ 0 → run (row_handed k opened r n) next ≡ add (row_item 3 r) (w (cursor n Cells opened (hand 0 0 r.prefix.header n r.body.stop r.body.present r.body.times)))
    unfolding row_handed behind_row bind pick run
    bare_cursor e f = rw (e, eq-eqb k.clustering 0 f)

    values_cursor : eqb r.extended 1 ≡ false → (k.clustering ≡ 0 → ⊥) → run (row_handed k opened r n) next ≡ add (row_item 3 r) (w (cursor r.prefix.values Values opened (hand 0 k.clustering r.prefix.header n r.body.stop r.body.present r.body.times)))
    unfolding row_handed behind_row bind pick run
    values_cursor e f = rw (e, ne_eqb k.clustering 0 f)

    static_walk : (at : ℕ) → RowPlaced s at (length s) r n → r.body.present ≤ columns k.statics → 0 < k.statics → eqb r.extended 1 ≡ true
        → run (row_handed k opened r n) next ≡ run (on static_cells_lem (λ cs m. got (static_entry r cs) m)) (behind_entry opened)
    static_walk at g p h e =
        static_cursor e
        ∙ before_cells (row_item 2 r) [] static_cells_lem (static_entry r) _ (λ cs. refl) (λ cs. refl)
        (body_walk Statics opened 0 r.prefix.header n r.body (16 + 16 * k.clustering) k.statics (statics_step h) table.statics p g.stops n g.within
        ∙ sym (adds_none _))

    -- the cells behind clustering values
    cells_behind : (at count : ℕ) → RowPlaced s at (length s) r n → r.body.present ≤ columns k.regulars
        → w (cursor n Cells opened (hand 0 count r.prefix.header n r.body.stop r.body.present r.body.times)) ≡ run row_cells (λ cs m. adds (cells_listed 0 cs) (item_from 0 opened m))
    cells_behind at count g p = body_walk Cells opened count r.prefix.header n r.body (16 + 16 * (k.clustering + k.statics)) k.regulars cells_step_lem table.regulars p g.stops n g.within

    -- the clustering values of a row
    module _ (at : ℕ) (g : RowPlaced s at (length s) r n) (known : r.body.present ≤ columns k.regulars) (plain : bad_header k.clustering r.prefix.header ≡ false) where
      values_good : (i p : ℕ) → i < k.clustering → p ≤ r.body.stop
          → bad_values k (length s) (cursor p Values opened (hand i k.clustering r.prefix.header n r.body.stop r.body.present r.body.times)) ≡ false
      unfolding bad_values outside bad_column pick bind
      values_good i p l h =
          rw (le-ltb (length s) r.body.stop g.stops, le-ltb r.body.stop p h, le-ltb (length s) n (omega (arith, g.within, g.stops)), eq-eqb k.clustering k.clustering refl, le-ltb (columns k.regulars) r.body.present known, lt-leb k.clustering i l)
          plain

      abbrev cells_cursor : Cursor
      cells_cursor = cursor n Cells opened (hand 0 k.clustering r.prefix.header n r.body.stop r.body.present r.body.times)

      values_step : (i p : ℕ) → i < k.clustering → p ≤ r.body.stop
          → step_in Values c k b s (cursor p Values opened (hand i k.clustering r.prefix.header n r.body.stop r.body.present r.body.times))
          ≡ handed (value_step c s (cursor p Values opened (hand i k.clustering r.prefix.header n r.body.stop r.body.present r.body.times)) cells_cursor)
      unfolding step_in values_answer at_cells bind pick
      values_step i p l h = rw (values_good i p l h)

      -- behind its clustering values a row has its cells
      values_then : (vs : List Span) (q : ℕ) → eqb r.extended 1 ≡ false → q ≤ r.body.stop → values_at (widths_at c 16 k.clustering) r.prefix.header s r.prefix.values (length s) ≡ got vs q
          → run (row_handed k opened r n) next ≡ add (row_item 3 r) (adds (values_listed 0 vs) (run row_cells (λ cs m. adds (cells_listed 0 cs) (item_from 0 opened m))))
      values_then vs q e l d = go k.clustering refl
        where
          alike : (j : ℕ) → k.clustering ≡ j → values_at (widths_at c 16 j) r.prefix.header s r.prefix.values (length s) ≡ values_at (widths_at c 16 k.clustering) r.prefix.header s r.prefix.values (length s)
          alike j f = ap (λ z. values_at (widths_at c 16 z) r.prefix.header s r.prefix.values (length s)) (sym f)

          go : (j : ℕ) → k.clustering ≡ j → run (row_handed k opened r n) next ≡ add (row_item 3 r) (adds (values_listed 0 vs) (run row_cells (λ cs m. adds (cells_listed 0 cs) (item_from 0 opened m))))
          go zero f =
              let y : got [] r.prefix.values ≡ got vs q = sym (values_none c s 16 r.prefix.header r.prefix.values (length s)) ∙ alike zero f ∙ d in
              let z : [] ≡ vs = cc in
              bare_cursor e f
              ∙ ap (add (row_item 3 r)) (cells_behind at 0 g known ∙ sym (adds_none _))
              ∙ ap (λ l. add (row_item 3 r) (adds (values_listed 0 l) (run row_cells (λ cs m. adds (cells_listed 0 cs) (item_from 0 opened m))))) z
          go (suc j) f =
              values_cursor e (λ z. omega arith)
              ∙ ap (add (row_item 3 r)) (values_walk c s k b w turns Values opened k.clustering r.prefix.header n r.body.stop r.body.present r.body.times cells_cursor values_step g.stops j 0 16 r.prefix.values r.prefix.header vs q (omega arith) (omega arith) (omega arith) g.values l (alike (suc j) f ∙ d))
              ∙ ap (λ o. add (row_item 3 r) (adds (values_listed 0 vs) o)) (cells_behind at k.clustering g known)

      plain_walk : (vs : List Span) (q : ℕ) → eqb r.extended 1 ≡ false → q ≤ r.body.stop → values_at (widths_at c 16 k.clustering) r.prefix.header s r.prefix.values (length s) ≡ got vs q
          → run (row_handed k opened r n) next ≡ run (on (values_at (widths_at c 16 k.clustering) r.prefix.header s r.prefix.values (length s)) (λ vs p. on row_cells (λ cs m. got (row_entry r vs cs) m))) (behind_entry opened)
      plain_walk vs q e l d =
          values_then vs q e l d
          ∙ before_cells (row_item 3 r) (values_listed 0 vs) row_cells (row_entry r vs) _ (λ cs. refl) (λ cs. refl) refl
          ∙ sym (run_on (values_at (widths_at c 16 k.clustering) r.prefix.header s r.prefix.values (length s)) _ _ ∙ run_got _ vs q _ d)

    -- what is read behind a row's head
    abbrev row_read : Got Entry
    row_read =
        pick (eqb r.extended 1)
        (on static_cells_lem (λ cs m. got (static_entry r cs) m))
        (on (values_at (widths_at c 16 k.clustering) r.prefix.header s r.prefix.values (length s)) (λ vs p.
        on row_cells (λ cs m.
        got (row_entry r vs cs) m)))

    handed_walk : (at : ℕ) → RowOk b (widths_at c 16 k.clustering) k.statics k.regulars s at (length s) r n → (r.extended ≡ 1 → 0 < k.statics)
        → run (row_handed k opened r n) next ≡ run row_read (behind_entry opened)
    handed_walk at g h = of g.rest
      where
        p : RowPlaced s at (length s) r n
        p = row_placed _ _ _ _ _ _ _ r n g

        of : ((r.extended ≡ 1) × RestOk b [] k.statics s g.clustering (length s) r n) ⊎ ((r.extended ≡ 0) × RestOk b (widths_at c 16 k.clustering) k.regulars s g.clustering (length s) r n)
            → run (row_handed k opened r n) next ≡ run row_read (behind_entry opened)
        of (inl z) =
            let e : eqb r.extended 1 ≡ true = eq-eqb r.extended 1 z.0 in
            static_walk at p z.1.body.present (h z.0) e ∙ ap (λ x. run x (behind_entry opened)) (pick_yes _ _ _ _ e refl)
        of (inr z) =
            let e : eqb r.extended 1 ≡ false = ne_eqb r.extended 1 (λ d. omega (arith, z.0)) in
            plain_walk at p z.1.body.present (ap (λ q. bad_header q r.prefix.header) (sym (widths_length c 16 k.clustering)) ∙ z.1.prefix.header) z.1.prefix.read z.1.sizes e (omega (arith, z.1.body.sized.past, z.1.body.sized.within)) z.1.prefix.is
            ∙ ap (λ x. run x (behind_entry opened)) (pick_no _ _ _ _ e refl)

  module _ (table : Table (length c) k) (opened : Deletion) (at : ℕ) where
    row_entry_lem : (first : ℕ) → row_entry_at (widths_of c k) b first s at (length s)
        ≡ on (row_at b (widths_at c 16 k.clustering) k.statics k.regulars first s at (length s)) (λ r n. row_read table opened r n)
    unfolding row_entry_at widths_of
    row_entry_lem first = rw (widths_length c (16 + 16 * k.clustering) k.statics, widths_length c (16 + 16 * (k.clustering + k.statics)) k.regulars)

    pub row_walk : (first : ℕ) → run (row_step c k b s first opened at) next ≡ run (row_entry_at (widths_of c k) b first s at (length s)) (behind_entry opened)
    unfolding row_step
    row_walk first =
        run_on (row_at b (widths_at c 16 k.clustering) k.statics k.regulars first s at (length s)) _ _
        ∙ run_same (row_at b (widths_at c 16 k.clustering) k.statics k.regulars first s at (length s)) _ _ (λ r n e.
        handed_walk table opened r n at ((row_gives b (widths_at c 16 k.clustering) k.statics k.regulars first s at (length s)).given r n e)
        ((static_stands b (widths_at c 16 k.clustering) k.statics k.regulars first s at (length s)).given r n e))
        ∙ sym (ap (λ x. run x (behind_entry opened)) (row_entry_lem first) ∙ run_on (row_at b (widths_at c 16 k.clustering) k.statics k.regulars first s at (length s)) _ _)
