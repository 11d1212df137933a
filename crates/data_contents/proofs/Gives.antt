-- What is read of Data goes on, not past its end, and is in range. Assumes nothing.
use mathlib.Core.Path.{◌≡◌, refl, sym, ◌∙◌}
use mathlib.Core.Bool.{Bool, true, false}
use mathlib.Core.List.{List, [], ◌∷◌}
use mathlib.Core.Logic.{◌⊎◌, inl, inr}
use mathlib.Core.Option.{Option, none, some}
use Prim.Native.Nat.{ℕ, zero, suc, ◌+◌, ◌-◌, ◌/◌, ◌%◌, ◌≤◌, ◌<◌}
use native.Mathlib.Omega.{arith}
use borrow.Author.Tests.{le-leb, ltb-true, ltb-false, eqb-true, eqb-false}
use lib.Dec.{ltb, eqb}
use lib.ListN.{length, get_or, take}
use Rattle.common.specs.Choose.{pick}
use Rattle.common.specs.Got.{Got, got, bad}
use Rattle.common.specs.declared.refusal.Fault.TheVariants.{PastEnd}
use Rattle.common.proofs.Choose.{pick_yes, pick_ind}
use Rattle.common.proofs.Gives.{Gives, gives_got, gives_bad, gives_on, gives_pick, gives_bind}
use Rattle.common.specs.declared.times.Bases.{Bases}
use Rattle.common.specs.Times.{biased}
use Rattle.data_field.specs.Fields.{live, byte_at}
use Rattle.data_field.specs.declared.fields.Deletion.{Deletion}
use Rattle.data_field.specs.declared.fields.Span.{Span}
use Rattle.data_cell.specs.declared.cells.Times.{Times}
use Rattle.data_cell.specs.declared.cells.Cell.{Cell}
use Rattle.data_field.proofs.Ranges.{Goes, Moves, goes_none, goes_goes, moves_on, moves_moves, fixed_moves, byte_gives}
use Rattle.data_cell.proofs.Gives.{CellOk, cell_gives}
use Rattle.data_clustering.proofs.Gives.{ValuesIn, values_give}
use Rattle.data_row.specs.Flags.{extended_of, extended_at}
use Rattle.data_turns.specs.Turns.{may_stand}
use Rattle.data_row.specs.Rows.{rest_at, row_at}
use Rattle.data_row.specs.declared.bodies.Body.{Body}
use Rattle.data_row.specs.declared.rows.Row.{Row}
use Rattle.data_row.proofs.Gives.{RestOk, RowOk, row_gives}
use Rattle.data_marker.proofs.Gives.{MarkerOk, marker_gives}
use Rattle.data_partition.specs.Partitions.{key_of, deleted_by, deleted_at, partition_at}
use Rattle.data_contents.specs.Contents.{Widths, Entry, static_entry, row_entry, marker_entry, Contents, open_behind, cells_at, body_cells_at, row_entry_at, marker_entry_at, entry_at, closed_at, entries_in, entries_at, whole_at, partitions_in, contents_at}

-- no byte is left
pub byte_none : (s : List ℕ) (at end : ℕ) → end ≤ at → byte_at s at end ≡ bad PastEnd at
unfolding byte_at
byte_none s at end h = pick_ind (λ z. z ≡ bad PastEnd at) _ _ (ltb (length s) end) (λ e. refl) (λ e. sym (pick_yes _ _ _ _ (le-leb end at h) refl))

-- ---- cells
-- the cells of the columns whose widths are ws, those that are there as they are read
abbrev pub CellsIn : List ℕ → Bases → Times → List ℕ → List (Option Cell) → Type 0
CellsIn s b row [] [] = Unit
CellsIn s b row [] (x ∷ cs) = ◌≡◌ {A = ℕ} 0 1
CellsIn s b row (w ∷ ws) [] = ◌≡◌ {A = ℕ} 0 1
CellsIn s b row (w ∷ ws) (none ∷ cs) = CellsIn s b row ws cs
CellsIn s b row (w ∷ ws) (some c ∷ cs) = CellOk s b row w c × CellsIn s b row ws cs

module _ (b : Bases) (row : Times) (s : List ℕ) (end : ℕ) where
  pub cells_give : (ws : List ℕ) (m at : ℕ) → at ≤ end → Gives (cells_at b row ws m s at end) (λ cs n. CellsIn s b row ws cs × Goes at end n)
  unfolding cells_at
  cells_give [] m at l = gives_got _ _ (tt, goes_none l)
  cells_give (w ∷ ws) m at l =
      gives_pick (eqb (m % 2) 1)
      (λ e.
      gives_on _ (cell_gives b row w s at end) (λ c p g.
      gives_on _ (cells_give ws (m / 2) p g.1.within) (λ cs n h.
      gives_got _ _ ((g.0, h.0), goes_goes (moves_on g.1) h.1))))
      (λ e. gives_on _ (cells_give ws (m / 2) at l) (λ cs n h. gives_got _ _ h))

pub body_cells_give : (b : Bases) (ws : List ℕ) (y : Body) (s : List ℕ) (at : ℕ) → at ≤ y.stop
    → Gives (body_cells_at b ws y s at) (λ cs n. CellsIn s b y.times ws cs × (n ≡ y.stop))
unfolding body_cells_at
body_cells_give b ws y s at l =
    gives_on _ (cells_give b y.times s y.stop ws y.present at l) (λ cs n g.
    gives_pick (ltb n y.stop) (λ e. gives_bad _ _) (λ e. gives_got _ _ (g.0, omega (arith, ltb-false n y.stop e, g.1.within))))

-- ---- a static row stands only where static columns exist
any : {A : Type 0} (x : Got A) → Gives x (λ a n. Unit)
any x = record { given = λ a n e. tt }

may_stand_lem : (first statics : ℕ) → may_stand first statics ≡ true → 0 < statics
unfolding may_stand pick
may_stand_lem first statics h = ltb-true 0 statics (second (ltb 0 first) (ltb 0 statics) h)
  where
    second : (t y : Bool) → pick t y false ≡ true → y ≡ true
    second true y e = e
    second false y e = cc

extended_of_lem : (first statics x at n : ℕ) → Gives (extended_of first statics x at n) (λ y m. y ≡ 1 → 0 < statics)
unfolding extended_of
extended_of_lem first statics x at n =
    gives_pick (eqb x 0) (λ e. gives_got _ _ (λ z. absurd (omega arith))) (λ e.
    gives_pick (eqb x 1)
    (λ f. gives_pick (may_stand first statics) (λ h. gives_got _ _ (λ z. may_stand_lem first statics h)) (λ h. gives_bad _ _)) (λ f.
    gives_pick (eqb x 2) (λ h. gives_bad _ _) (λ h.
    gives_pick (eqb x 128) (λ i. gives_bad _ _) (λ i. gives_bad _ _))))

extended_stands : (f first statics : ℕ) (s : List ℕ) (at end : ℕ) → Gives (extended_at f first statics s at end) (λ y m. y ≡ 1 → 0 < statics)
unfolding extended_at
extended_stands f first statics s at end =
    gives_pick (eqb (f / 128 % 2) 1)
    (λ e. gives_on _ (any (byte_at s at end)) (λ x n g. extended_of_lem first statics x at n))
    (λ e. gives_got _ _ (λ z. absurd (omega arith)))

rest_extended : (b : Bases) (ws : List ℕ) (k start f x : ℕ) (s : List ℕ) (at end : ℕ) → Gives (rest_at b ws k start f x s at end) (λ r n. r.extended ≡ x)
unfolding rest_at
rest_extended b ws k start f x s at end = gives_on _ (any _) (λ p m g. gives_on _ (any _) (λ y n h. gives_got _ _ refl))

pub static_stands : (b : Bases) (ws : List ℕ) (statics regulars first : ℕ) (s : List ℕ) (at end : ℕ)
    → Gives (row_at b ws statics regulars first s at end) (λ r n. r.extended ≡ 1 → 0 < statics)
unfolding row_at
static_stands b ws statics regulars first s at end =
    gives_on _ (any _) (λ f m g.
    gives_on _ (extended_stands f first statics s m end) (λ x p h.
    gives_pick (eqb x 1) (λ e. record { given = λ r n d z. h (eqb-true x 1 e) }) (λ e. record {
      given = λ r n d z. let y = (rest_extended b ws regulars at f 0 s p end).given r n d in absurd (omega arith);
    })))

-- ---- entries
-- a row whose columns have the widths ws, with its cells, from at up to n
pub record RowIn (t : Widths) (b : Bases) (s : List ℕ) (at end : ℕ) (ws : List ℕ) (r : Row) (cs : List (Option Cell)) (n : ℕ) : Type 0 where
  pub first : ℕ
  pub row : RowOk b t.clustering (length t.statics) (length t.regulars) s at end r first
  pub cells : CellsIn s b r.body.times ws cs
  pub stops : n ≡ r.body.stop

abbrev pub EntryIn : Widths → Bases → List ℕ → Deletion → ℕ → ℕ → Entry → ℕ → Type 0
EntryIn t b s opened at end (static_entry r cs) n = (r.extended ≡ 1) × RowIn t b s at end t.statics r cs n
EntryIn t b s opened at end (row_entry r vs cs) n = (r.extended ≡ 0) × ValuesIn s t.clustering vs × RowIn t b s at end t.regulars r cs n
EntryIn t b s opened at end (marker_entry m q vs) n = (n ≡ q) × ValuesIn s (take m.count t.clustering) vs × MarkerOk b t.clustering opened s at end m n

-- where a row's first cell and its body's end are
pub record RowPlaced (s : List ℕ) (at end : ℕ) (r : Row) (n : ℕ) : Type 0 where
  pub past : at < n
  pub within : n ≤ r.body.stop
  pub stops : r.body.stop ≤ end
  pub inside : end ≤ length s
  pub values : r.prefix.values ≤ end

pub row_placed : (b : Bases) (ws : List ℕ) (statics regulars : ℕ) (s : List ℕ) (at end : ℕ) (r : Row) (n : ℕ) → RowOk b ws statics regulars s at end r n → RowPlaced s at end r n
row_placed b ws statics regulars s at end r n g = of g.rest
  where
    by : {us : List ℕ} {k : ℕ} → RestOk b us k s g.clustering end r n → RowPlaced s at end r n
    by z = record {
      past = omega (arith, g.moves.past, z.prefix.begins.on, z.prefix.goes.on, z.body.sized.past);
      within = z.body.sized.within;
      stops = z.body.sized.stops;
      inside = z.body.sized.inside;
      values = z.prefix.begins.within;
    }

    of : ((r.extended ≡ 1) × RestOk b [] statics s g.clustering end r n) ⊎ ((r.extended ≡ 0) × RestOk b ws regulars s g.clustering end r n) → RowPlaced s at end r n
    of (inl z) = by z.1
    of (inr z) = by z.1

module _ (t : Widths) (b : Bases) (s : List ℕ) (at end : ℕ) where
  plain_row : (r : Row) (n : ℕ) → RowOk b t.clustering (length t.statics) (length t.regulars) s at end r n → eqb r.extended 1 ≡ false → r.extended ≡ 0
  plain_row r n g e = of g.rest
    where
      of : ((r.extended ≡ 1) × RestOk b [] (length t.statics) s g.clustering end r n) ⊎ ((r.extended ≡ 0) × RestOk b t.clustering (length t.regulars) s g.clustering end r n) → r.extended ≡ 0
      of (inl z) = absurd (eqb-false r.extended 1 e z.0)
      of (inr z) = z.0

  pub row_entry_gives : (first : ℕ) (opened : Deletion) → Gives (row_entry_at t b first s at end) (EntryIn t b s opened at end)
  unfolding row_entry_at
  row_entry_gives first opened =
      gives_on _ (row_gives b t.clustering (length t.statics) (length t.regulars) first s at end) (λ r n g.
      let p = row_placed _ _ _ _ _ _ _ r n g in
      gives_pick (eqb r.extended 1)
      (λ e.
      gives_on _ (body_cells_give b t.statics r.body s n p.within) (λ cs m h.
      gives_got _ _ (eqb-true r.extended 1 e, record { first = n; row = g; cells = h.0; stops = h.1 })))
      (λ e.
      gives_on _ (values_give s end p.inside t.clustering r.prefix.header r.prefix.values p.values) (λ vs q v.
      gives_on _ (body_cells_give b t.regulars r.body s n p.within) (λ cs m h.
      gives_got _ _ (plain_row r n g e, v.0, record { first = n; row = g; cells = h.0; stops = h.1 })))))

  pub marker_entry_gives : (opened : Deletion) → Gives (marker_entry_at t b opened s at end) (EntryIn t b s opened at end)
  unfolding marker_entry_at
  marker_entry_gives opened =
      gives_on _ (marker_gives b t.clustering opened s at end) (λ m n g.
      gives_on _ (values_give s end g.moves.inside (take m.count t.clustering) m.prefix.header m.prefix.values g.rest.prefix.begins.within) (λ vs q v.
      gives_got _ _ (refl, v.0, g)))

  pub entry_gives : (first : ℕ) (opened : Deletion) (f : ℕ) → Gives (entry_at t b first opened f s at end) (EntryIn t b s opened at end)
  unfolding entry_at
  entry_gives first opened f = gives_pick (eqb f 2) (λ e. marker_entry_gives opened) (λ e. row_entry_gives first opened)

  row_goes : (ws : List ℕ) (r : Row) (cs : List (Option Cell)) (n : ℕ) → RowIn t b s at end ws r cs n → Moves s at end n
  row_goes ws r cs n g =
      let p = row_placed _ _ _ _ _ _ _ r g.first g.row in
      record { past = omega (arith, g.stops, p.past, p.within); within = omega (arith, g.stops, p.stops); inside = p.inside }

  pub entry_moves : (opened : Deletion) (e : Entry) (n : ℕ) → EntryIn t b s opened at end e n → Moves s at end n
  entry_moves opened (static_entry r cs) n g = row_goes t.statics r cs n g.1
  entry_moves opened (row_entry r vs cs) n g = row_goes t.regulars r cs n g.2
  entry_moves opened (marker_entry m q vs) n g =
      let h = g.2 in
      record {
        past = omega (arith, h.moves.past, h.rest.begins.past, h.rest.prefix.begins.on, h.rest.prefix.goes.on, h.rest.body.past);
        within = h.rest.body.within;
        inside = h.moves.inside;
      }

-- entries from at up to the end byte at p, where the deletion of the open range is `opened`
abbrev pub EntriesIn : Widths → Bases → List ℕ → ℕ → Deletion → ℕ → List Entry → ℕ → Type 0
EntriesIn t b s end opened at [] p = (opened.deleted ≡ 0) × (p ≡ at)
EntriesIn t b s end opened at (e ∷ es) p = (m : ℕ) × (EntryIn t b s opened at end e m × EntriesIn t b s end (open_behind opened e) m es p)

-- the end byte at p
pub record Ended (s : List ℕ) (at end p : ℕ) : Type 0 where
  pub on : at ≤ p
  pub byte : get_or s p 0 ≡ 1
  pub within : p < end
  pub inside : end ≤ length s

pub entries_give : (j : ℕ) (t : Widths) (b : Bases) (first : ℕ) (opened : Deletion) (s : List ℕ) (at end : ℕ)
    → Gives (entries_in j t b first opened s at end) (λ es p. EntriesIn t b s end opened at es p × Ended s at end p)
unfolding entries_in closed_at
entries_give zero t b first opened s at end = gives_bad _ _
entries_give (suc j) t b first opened s at end =
    gives_on _ (byte_gives s at end) (λ f n g.
    gives_pick (eqb f 1)
    (λ e.
    gives_pick (eqb opened.deleted 0)
    (λ d. gives_got _ _ (
      (eqb-true opened.deleted 0 d, refl),
      record { on = omega arith; byte = sym g.0 ∙ eqb-true f 1 e; within = omega (arith, g.1.past, g.1.within); inside = g.1.inside },
    ))
    (λ d. gives_bad _ _))
    (λ e.
    gives_on _ (entry_gives t b s at end first opened f) (λ x m h.
    gives_on _ (entries_give j t b 0 (open_behind opened x) s m end) (λ es p k.
    let o : at ≤ p = omega (arith, (entry_moves t b s at end opened x m h).past, k.1.on) in
    gives_got _ _ ((m, (h, k.0)), record { on = o; byte = k.1.byte; within = k.1.within; inside = k.1.inside })))))

-- ---- partitions
module _ (s : List ℕ) (end : ℕ) where
  deleted_moves : (at : ℕ) → Gives (deleted_at s at end) (λ d n. Moves s at end n)
  unfolding deleted_at deleted_by
  deleted_moves at =
      gives_on _ (fixed_moves s at end 4 (omega arith)) (λ x p g.
      gives_pick (ltb 2147483647 x) (λ e. gives_bad _ _) (λ e.
      gives_on _ (fixed_moves s p end 8 (omega arith)) (λ y n h.
      gives_bind _ _
      (gives_pick (eqb x 2147483647)
      (λ d. gives_pick (eqb (biased y) 0) (λ f. gives_got _ _ (moves_moves g h)) (λ f. gives_bad _ _))
      (λ d. gives_pick (eqb (biased y) 0) (λ f. gives_bad _ _) (λ f. gives_got _ _ (moves_moves g h)))))))

  key_lies : (m len : ℕ) → m + len ≤ end → end ≤ length s → (key_of m len).start + (key_of m len).len ≤ length s
  unfolding key_of
  key_lies m len l h = pick_ind (λ (v : Span). v.start + v.len ≤ length s) _ _ (eqb len 0) (λ e. omega arith) (λ e. omega arith)

  -- whatever the bytes are
  pub partition_moves : (at : ℕ) → Gives (partition_at s at end) (λ h n. Moves s at end n × (h.key.start + h.key.len ≤ length s))
  unfolding partition_at
  partition_moves at =
      gives_on _ (fixed_moves s at end 2 (omega arith)) (λ len m g.
      gives_pick (ltb (end - m) len) (λ e. gives_bad _ _) (λ e.
      let l : m + len ≤ end = omega (arith, ltb-false (end - m) len e, g.within) in
      gives_on _ (deleted_moves (m + len)) (λ d n h.
      gives_bind _ _ (gives_got _ _ (record { past = omega (arith, g.past, h.past); within = h.within; inside = g.inside }, key_lies m len l g.inside)))))

-- a partition, whole, whose header ends at first
pub record ContentsIn (t : Widths) (b : Bases) (s : List ℕ) (at end : ℕ) (x : Contents) (n : ℕ) : Type 0 where
  pub first : ℕ
  pub header : partition_at s at end ≡ got x.header first
  pub entries : EntriesIn t b s end live first x.entries x.end
  pub ended : Ended s at end x.end
  pub next : n ≡ x.end + 1

pub whole_gives : (t : Widths) (b : Bases) (s : List ℕ) (at end : ℕ) → Gives (whole_at t b s at end) (ContentsIn t b s at end)
unfolding whole_at entries_at
whole_gives t b s at end =
    gives_on _ (itself (partition_at s at end)) (λ h m d.
    gives_on _ (entries_give (end - m) t b 1 live s m end) (λ es p g.
    gives_got _ _ (record {
      first = m;
      header = d;
      entries = g.0;
      ended = record { on = omega (arith, ((partition_moves s end at).given h m d).0.past, g.1.on); byte = g.1.byte; within = g.1.within; inside = g.1.inside };
      next = refl;
    })))
  where
    itself : {A : Type 0} (x : Got A) → Gives x (λ a n. x ≡ got a n)
    itself x = record { given = λ a n e. e }

-- partitions from at up to the end
abbrev pub AllIn : Widths → Bases → List ℕ → ℕ → ℕ → List Contents → Type 0
AllIn t b s end at [] = at ≡ end
AllIn t b s end at (x ∷ xs) = (m : ℕ) × (ContentsIn t b s at end x m × AllIn t b s end m xs)

pub partitions_give : (j : ℕ) (t : Widths) (b : Bases) (s : List ℕ) (at end : ℕ) → end - at ≤ j → at ≤ end → Gives (partitions_in j t b s at end) (λ xs n. AllIn t b s end at xs × (n ≡ end))
unfolding partitions_in
partitions_give zero t b s at end l h = gives_got _ _ (omega arith, omega arith)
partitions_give (suc j) t b s at end l h =
    gives_pick (eqb at end) (λ e. gives_got _ _ (eqb-true at end e, eqb-true at end e)) (λ e.
    gives_on _ (whole_gives t b s at end) (λ x m g.
    let u : m ≤ end = omega (arith, g.next, g.ended.within) in
    let v : at < m = omega (arith, g.next, g.ended.on) in
    gives_on _ (partitions_give j t b s m end (omega arith) u) (λ xs n k.
    gives_got _ _ ((m, (g, k.0)), k.1))))

-- all that Data holds
pub contents_give : (t : Widths) (b : Bases) (s : List ℕ) (at end : ℕ) → at ≤ end → Gives (contents_at t b s at end) (λ xs n. AllIn t b s end at xs × (n ≡ end))
unfolding contents_at
contents_give t b s at end h = partitions_give (end - at) t b s at end (omega arith) h
