-- Every step that hands out an item moves on: `remaining` falls. So a walk ends, and unfolds by one step. Assumes nothing.
use mathlib.Core.Path.{◌≡◌, refl, ap, ◌∙◌}
use mathlib.Core.List.{List, []}
use mathlib.Core.Logic.{◌⊎◌, inl, inr}
use mathlib.Core.Option.{none, some}
use Prim.Native.Nat.{ℕ, zero, suc, ◌+◌, ◌-◌, ◌/◌, ◌^◌, ◌≤◌, ◌<◌}
use native.Mathlib.Omega.{arith}
use borrow.Author.Tests.{ltb-false}
use lib.Dec.{ltb, eqb}
use lib.ListN.{length}
use Rattle.common.specs.Choose.{bind}
use Rattle.common.specs.Got.{Got, got, bad}
use Rattle.common.specs.Refusals.{Outcome, taken, refused}
use Rattle.common.specs.declared.times.Bases.{Bases}
use Rattle.common.proofs.Choose.{pick_ind}
use Rattle.common.proofs.Gives.{Gives, gives_got, gives_bad, gives_on, gives_pick, gives_bind}
use Rattle.data_field.specs.declared.fields.Deletion.{Deletion}
use Rattle.data_field.proofs.Ranges.{Moves, moves_moves, byte_gives, fixed_moves}
use Rattle.data_cell.proofs.Gives.{cell_gives}
use Rattle.data_clustering.specs.Prefixes.{widths_at}
use Rattle.data_row.proofs.Gives.{RestOk, RowOk, row_gives}
use Rattle.data_row.specs.declared.rows.Row.{Row}
use Rattle.data_marker.proofs.Gives.{marker_gives}
use Rattle.data_partition.specs.Partitions.{partition_at, deleted_at, deleted_by}
use Rattle.schema_check.specs.declared.records.Counts.{Counts}
use Rattle.data_walk.specs.Cursors.{at_items, at_cells, behind_value, behind_cell, behind_marker, behind_row}
use Rattle.data_walk.specs.Steps.{Handed, Answer, handed, partition_step, end_step, marker_step, row_handed, row_step, item_step, value_step, cell_step, cells_step, partition_answer, item_answer, values_answer, prefix_answer, cells_answer, statics_answer, step_in}
use Rattle.call_check.specs.Tables.{Table}
use Rattle.data_walk.specs.Walks.{reach_in, left_in, remaining, follow, add, walk_in, walk_from}
use Rattle.data_items.specs.declared.Item.{Item}
use Rattle.data_walk.specs.declared.cursors.Phase.{Phase}
use Rattle.data_walk.specs.declared.cursors.Phase.TheVariants.{Partition, First, Items, Values, Prefix, Statics, Cells}
use Rattle.data_walk.specs.declared.cursors.Cursor.{Cursor}
use Rattle.data_walk.proofs.Bounds.{values_below, prefix_below, cells_column}

-- the cursor y has come further than at, and not past Data's end
pub record Further (s : List ℕ) (at : ℕ) (y : Cursor) : Type 0 where
  pub past : at < reach_in y.phase y
  pub within : reach_in y.phase y ≤ length s

deleted_moves : (s : List ℕ) (at end : ℕ) → Gives (deleted_at s at end) (λ d n. Moves s at end n)
unfolding deleted_at deleted_by
deleted_moves s at end =
    gives_on _ (fixed_moves s at end 4 (omega arith)) (λ x p g.
    gives_pick (ltb 2147483647 x) (λ e. gives_bad _ _) (λ e.
    gives_on _ (fixed_moves s p end 8 (omega arith)) (λ y n h.
    gives_bind _ _ (gives_pick (eqb x 2147483647)
    (λ e. gives_pick _ (λ f. gives_got _ _ (moves_moves g h)) (λ f. gives_bad _ _))
    (λ e. gives_pick _ (λ f. gives_bad _ _) (λ f. gives_got _ _ (moves_moves g h)))))))

partition_moves : (s : List ℕ) (at : ℕ) → Gives (partition_step s at) (λ h n. Further s at h.1)
unfolding partition_step partition_at at_items bind
partition_moves s at =
    gives_on {P = λ p n. Moves s at (length s) n} _
    (gives_on _ (fixed_moves s at (length s) 2 (omega arith)) (λ len m g.
    gives_pick _ (λ e. gives_bad _ _) (λ e.
    gives_on _ (deleted_moves s (m + len) (length s)) (λ d n h.
    gives_got _ _ (record { past = omega (arith, g.past, h.past); within = h.within; inside = h.inside })))))
    (λ p n g. gives_got _ _ (record { past = g.past; within = g.within }))

module _ (b : Bases) (ws : List ℕ) (statics regulars : ℕ) (s : List ℕ) (at : ℕ) (r : Row) (n : ℕ) where
  row_reaches : RowOk b ws statics regulars s at (length s) r n → (at < r.body.stop) × (r.body.stop ≤ length s)
  row_reaches g = of g.rest
    where
      of : ((r.extended ≡ 1) × RestOk b [] statics s g.clustering (length s) r n) ⊎ ((r.extended ≡ 0) × RestOk b ws regulars s g.clustering (length s) r n)
          → (at < r.body.stop) × (r.body.stop ≤ length s)
      of (inl z) = (omega (arith, g.moves.past, z.1.prefix.begins.on, z.1.prefix.goes.on, z.1.body.sized.past, z.1.body.sized.within), z.1.body.sized.stops)
      of (inr z) = (omega (arith, g.moves.past, z.1.prefix.begins.on, z.1.prefix.goes.on, z.1.body.sized.past, z.1.body.sized.within), z.1.body.sized.stops)

further : (s : List ℕ) (at : ℕ) (y : Cursor) → (at < reach_in y.phase y) × (reach_in y.phase y ≤ length s) → Further s at y
further s at y h = record { past = h.0; within = h.1 }

module _ (c : List ℕ) (k : Counts) (b : Bases) (s : List ℕ) (opened : Deletion) (at : ℕ) where
  row_moves : (first : ℕ) → Gives (row_step c k b s first opened at) (λ h n. Further s at h.1)
  unfolding row_step row_handed behind_row bind
  row_moves first =
      gives_on _ (row_gives b (widths_at c 16 k.clustering) k.statics k.regulars first s at (length s)) (λ r n g.
      let z = row_reaches b (widths_at c 16 k.clustering) k.statics k.regulars s at r n g in
      gives_pick (eqb r.extended 1) (λ e. gives_got _ _ (further _ _ _ z)) (λ e.
      gives_pick (eqb k.clustering 0) (λ f. gives_got _ _ (further _ _ _ z)) (λ f. gives_got _ _ (further _ _ _ z))))

  marker_moves : Gives (marker_step c k b s opened at) (λ h n. Further s at h.1)
  unfolding marker_step behind_marker at_items bind
  marker_moves =
      gives_on _ (marker_gives b (widths_at c 16 k.clustering) opened s at (length s)) (λ m n g.
      let l : at < n = omega (arith, g.moves.past, g.rest.begins.past, g.rest.prefix.begins.on, g.rest.prefix.goes.on, g.rest.body.past) in
      gives_got _ _ (pick_ind (λ (y : Cursor). Further s at y) _ _ _ (λ e. further _ _ _ (l, g.rest.body.within)) (λ e. further _ _ _ (l, g.rest.body.within))))

  end_moves : (n : ℕ) → at < n → n ≤ length s → Gives (end_step opened at n) (λ h m. Further s at h.1)
  unfolding end_step at_items bind
  end_moves n l w = gives_pick (eqb opened.deleted 0) (λ e. gives_got _ _ (further _ _ _ (l, w))) (λ e. gives_bad _ _)

  -- an item of a partition
  item_moves : (first : ℕ) → Gives (item_step c k b s first opened at) (λ h n. Further s at h.1)
  unfolding item_step
  item_moves first =
      gives_on _ (byte_gives s at (length s)) (λ f n g.
      gives_pick (eqb f 1) (λ e. end_moves n g.1.past g.1.within) (λ e.
      gives_pick (eqb f 2) (λ d. marker_moves) (λ d. row_moves first)))

-- y stands at a later column of the item that x has in hand
record Later (x y : Cursor) : Type 0 where
  phase : y.phase ≡ x.phase
  stop : y.hand.stop ≡ x.hand.stop
  column : x.hand.column < y.hand.column

cell_moves : (c : List ℕ) (b : Bases) (s : List ℕ) (x : Cursor) (base i : ℕ) → x.hand.column ≤ i → Gives (cell_step c b s x base i) (λ h n. Later x h.1)
unfolding cell_step behind_cell bind
cell_moves c b s x base i l =
    gives_on _ (cell_gives b x.hand.times _ s x.position x.hand.stop) (λ v n g. gives_got _ _ (record { phase = refl; stop = refl; column = omega arith }))

-- behind a clustering value: the last cursor, or a later column
value_moves : (c s : List ℕ) (x last : Cursor) → Gives (value_step c s x last) (λ h n. (h.1 ≡ last) ⊎ Later x h.1)
unfolding value_step behind_value bind
value_moves c s x last =
    gives_on {P = λ v n. Unit} _ (record { given = λ v n e. tt }) (λ v n g.
    gives_got _ _ (pick_ind (λ (y : Cursor). (y ≡ last) ⊎ Later x y) _ _ _ (λ e. inl refl) (λ e.
    pick_ind (λ (y : Cursor). (y ≡ last) ⊎ Later x y) _ _ _ (λ f. inl refl) (λ f. inr (record { phase = refl; stop = refl; column = omega arith })))))

-- in a row's cells: a later column, or further than the body
cells_move : (c : List ℕ) (k : Counts) (b : Bases) (s : List ℕ) (x : Cursor) (base : ℕ)
    → Gives (cells_step c k b s x base) (λ h n. Further s x.hand.stop h.1 ⊎ Later x h.1)
unfolding cells_step bind
cells_move c k b s x base =
    gives_pick (eqb (x.hand.present / 2 ^ x.hand.column) 0)
    (λ e. gives_pick (ltb x.position x.hand.stop) (λ f. gives_bad _ _) (λ f. record {
      given = λ h n d.
          let z = (item_moves c k b s x.opened x.position 0).given h n d in
          inl (record { past = omega (arith, z.past, ltb-false x.position x.hand.stop f); within = z.within });
    }))
    (λ e. record { given = λ h n d. inr ((cell_moves c b s x base _ (omega arith)).given h n d) })

-- ---- what falls
left_short : (p : Phase) (column : ℕ) → left_in p column < 128
left_short Partition column = omega arith
left_short First column = omega arith
left_short Items column = omega arith
left_short Values column = omega arith
left_short Prefix column = omega arith
left_short Statics column = omega arith
left_short Cells column = omega arith

-- where a step hands out an item, less remains
unfoldable pub Falls : ℕ → Cursor → Answer → Type 0
Falls len x (taken none) = Unit
Falls len x (taken (some h)) = remaining len h.1 < remaining len x
Falls len x (refused f z p) = Unit

falls_handed : (len : ℕ) (x : Cursor) (g : Got Handed) → Gives g (λ h n. remaining len h.1 < remaining len x) → Falls len x (handed g)
unfolding Falls handed
falls_handed len x (got h n) z = z.given h n refl
falls_handed len x (bad f p) z = tt

falls_bad : (len : ℕ) (x : Cursor) (f : _) (z : _) (p : ℕ) → Falls len x (refused f z p)
unfolding Falls
falls_bad len x f z p = tt

falls_done : (len : ℕ) (x : Cursor) → Falls len x (taken none)
unfolding Falls
falls_done len x = tt

module _ (s : List ℕ) (x y : Cursor) where
  further_falls : (p : Phase) → x.phase ≡ p → Further s (reach_in p x) y → remaining (length s) y < remaining (length s) x
  unfolding remaining
  further_falls p e g =
      let h : reach_in x.phase x ≡ reach_in p x = ap (λ q. reach_in q x) e in
      omega (arith, g.past, g.within, left_short y.phase y.hand.column)

  -- a later column, in a phase in which columns count
  later_falls : (p : Phase) → x.phase ≡ p → Later x y → (x.hand.column < y.hand.column → left_in p y.hand.column < left_in p x.hand.column)
      → reach_in p y ≡ y.hand.stop → reach_in p x ≡ x.hand.stop → remaining (length s) y < remaining (length s) x
  unfolding remaining
  later_falls p e g l f h =
      let d : y.phase ≡ p = g.phase ∙ e in
      let i : reach_in x.phase x ≡ reach_in p x = ap (λ q. reach_in q x) e in
      let j : reach_in y.phase y ≡ reach_in p y = ap (λ q. reach_in q y) d in
      let a : left_in x.phase x.hand.column ≡ left_in p x.hand.column = ap (λ q. left_in q x.hand.column) e in
      let b : left_in y.phase y.hand.column ≡ left_in p y.hand.column = ap (λ q. left_in q y.hand.column) d in
      omega (arith, g.stop, l g.column)

-- behind the last value of a row, of a marker
cells_fall : (len : ℕ) (x y : Cursor) → x.phase ≡ Values → y ≡ at_cells x → remaining len y < remaining len x
unfolding remaining at_cells
cells_fall len x y e f = rw (e, f) (omega arith)

items_fall : (len : ℕ) (x y : Cursor) → x.phase ≡ Prefix → y ≡ at_items x.hand.stop Items x.opened → remaining len y < remaining len x
unfolding remaining at_items bind
items_fall len x y e f = rw (e, f) (omega arith)

-- ---- every step
module _ (c : List ℕ) (k : Counts) (b : Bases) (s : List ℕ) (x : Cursor) (t : Table (length c) k) where
  partition_falls : x.phase ≡ Partition → Falls (length s) x (partition_answer s x)
  unfolding partition_answer
  partition_falls e =
      pick_ind (Falls (length s) x) _ _ _ (λ f. falls_bad _ _ _ _ _) (λ f.
      pick_ind (Falls (length s) x) _ _ _ (λ g. falls_done _ _) (λ g.
      falls_handed _ _ _ (record { given = λ h n d. further_falls s x h.1 Partition e ((partition_moves s x.position).given h n d) })))

  item_falls : (p : Phase) (first : ℕ) → x.phase ≡ p → reach_in p x ≡ x.position → Falls (length s) x (item_answer c k b s first x)
  unfolding item_answer
  item_falls p first e r =
      pick_ind (Falls (length s) x) _ _ _ (λ f. falls_bad _ _ _ _ _) (λ f.
      falls_handed _ _ _ (record { given = λ h n d. further_falls s x h.1 p e (rw r ((item_moves c k b s x.opened x.position first).given h n d)) }))

  values_fall : x.phase ≡ Values → Falls (length s) x (values_answer c k s x)
  unfolding values_answer bind
  values_fall e =
      pick_ind (Falls (length s) x) _ _ _ (λ f. falls_bad _ _ _ _ _) (λ f.
      let l : x.hand.column < 32 = values_below k (length s) x (length s) x.hand.column _ refl f refl t.clustering in
      falls_handed _ _ _ (record { given = λ h n d. of h.1 l ((value_moves c s x (at_cells x)).given h n d) }))
    where
      of : (y : Cursor) → x.hand.column < 32 → (y ≡ at_cells x) ⊎ Later x y → remaining (length s) y < remaining (length s) x
      of y l (inl g) = cells_fall (length s) x y e g
      of y l (inr g) = later_falls s x y Values e g (λ j. omega arith) refl refl

  prefix_falls : x.phase ≡ Prefix → Falls (length s) x (prefix_answer c k s x)
  unfolding prefix_answer bind
  prefix_falls e =
      pick_ind (Falls (length s) x) _ _ _ (λ f. falls_bad _ _ _ _ _) (λ f.
      let l : x.hand.column < 32 = prefix_below k (length s) x (length s) x.hand.column _ refl f refl t.clustering in
      falls_handed _ _ _ (record { given = λ h n d. of h.1 l ((value_moves c s x (at_items x.hand.stop Items x.opened)).given h n d) }))
    where
      of : (y : Cursor) → x.hand.column < 32 → (y ≡ at_items x.hand.stop Items x.opened) ⊎ Later x y → remaining (length s) y < remaining (length s) x
      of y l (inl g) = items_fall (length s) x y e g
      of y l (inr g) = later_falls s x y Prefix e g (λ j. omega arith) refl refl

  cells_answer_falls : (p : Phase) (base m : ℕ) → m ≤ 63 → x.phase ≡ p → (reach_in p x ≡ x.hand.stop) → ((y : Cursor) → reach_in p y ≡ y.hand.stop)
      → ((i : ℕ) → left_in p i ≡ 64 - i) → Falls (length s) x (cells_answer c k b s x base m)
  unfolding cells_answer
  cells_answer_falls p base m w e r a i =
      pick_ind (Falls (length s) x) _ _ _ (λ f. falls_bad _ _ _ _ _) (λ f.
      let l : x.hand.column ≤ m = cells_column m (length s) x _ x.hand.column refl f refl in
      falls_handed _ _ _ (record { given = λ h n d. of h.1 l ((cells_move c k b s x base).given h n d) }))
    where
      of : (y : Cursor) → x.hand.column ≤ m → Further s x.hand.stop y ⊎ Later x y → remaining (length s) y < remaining (length s) x
      of y l (inl g) = further_falls s x y p e (rw r g)
      of y l (inr g) = later_falls s x y p e g (λ j. omega (arith, i x.hand.column, i y.hand.column)) (a y) r

  step_falls : (p : Phase) → x.phase ≡ p → Falls (length s) x (step_in p c k b s x)
  unfolding step_in statics_answer
  step_falls Partition e = partition_falls e
  step_falls First e = item_falls First 1 e refl
  step_falls Items e = item_falls Items 0 e refl
  step_falls Values e = values_fall e
  step_falls Prefix e = prefix_falls e
  step_falls Statics e = pick_ind (Falls (length s) x) _ _ _ (λ f. falls_bad _ _ _ _ _) (λ f. cells_answer_falls Statics _ _ t.statics e refl (λ y. refl) (λ i. refl))
  step_falls Cells e = cells_answer_falls Cells _ _ t.regulars e refl (λ y. refl) (λ i. refl)

-- "every step moves on": what is left to walk falls with each item that a step hands out
pub step_moves : (c : List ℕ) (k : Counts) (b : Bases) (s : List ℕ) (x y : Cursor) (i : Item)
    → Table (length c) k → step_in x.phase c k b s x ≡ taken (some (i, y)) → remaining (length s) y < remaining (length s) x
unfolding Falls
step_moves c k b s x y i t e = rw e at (step_falls c k b s x t x.phase refl)

-- ---- the walk unfolds by one step
follow_same : (len : ℕ) (x : Cursor) (a : Answer) (f g : Cursor → Outcome (List Item)) → Falls len x a → ((y : Cursor) → remaining len y < remaining len x → f y ≡ g y) → follow a f ≡ follow a g
unfolding follow Falls
follow_same len x (taken none) f g h e = refl
follow_same len x (taken (some z)) f g h e = ap (add z.0) (e z.1 h)
follow_same len x (refused y z p) f g h e = refl

module _ (c : List ℕ) (k : Counts) (b : Bases) (s : List ℕ) (t : Table (length c) k) where
  -- any number of steps that is above what remains gives one walk
  walk_same : (m n : ℕ) (x : Cursor) → remaining (length s) x < m → remaining (length s) x < n → walk_in m c k b s x ≡ walk_in n c k b s x
  unfolding walk_in
  walk_same zero n x h l = absurd (omega arith)
  walk_same (suc m) zero x h l = absurd (omega arith)
  walk_same (suc m) (suc n) x h l =
      follow_same (length s) x _ (walk_in m c k b s) (walk_in n c k b s) (step_falls c k b s x t x.phase refl) (λ y j. walk_same m n y (omega arith) (omega arith))

  pub walk_unfolds : (x : Cursor) → walk_from c k b s x ≡ follow (step_in x.phase c k b s x) (walk_from c k b s)
  unfolding walk_from walk_in
  walk_unfolds x =
      follow_same (length s) x _ (walk_in (remaining (length s) x) c k b s) (walk_from c k b s) (step_falls c k b s x t x.phase refl) (λ y j. walk_same (remaining (length s) x) (suc (remaining (length s) y)) y j (omega arith))
