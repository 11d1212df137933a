-- What is read of Data can be written: what it shows is in range, of its columns' widths and in turn. Assumes nothing.
use mathlib.Core.Path.{◌≡◌, refl, sym, ap, ◌∙◌, subst}
use mathlib.Core.Bool.{true, false}
use mathlib.Core.List.{List, [], ◌∷◌}
use mathlib.Core.Logic.{◌⊎◌, inl, inr}
use mathlib.Core.Option.{Option, none, some}
use Prim.Native.Nat.{ℕ, zero, suc, ◌+◌, ◌-◌, ◌/◌, ◌%◌, ◌^◌, ◌≤◌, ◌<◌}
use native.Mathlib.Omega.{arith}
use borrow.Author.Tests.{le-ltb, eqb-true}
use lib.Dec.{ltb, eqb}
use lib.ListN.{length, get_or, take, length-take, length-drop}
use Rattle.common.specs.Choose.{pick}
use Rattle.common.specs.Got.{Got}
use Rattle.common.specs.Store.{part, shown}
use Rattle.common.specs.declared.times.Bases.{Bases}
use Rattle.common.proofs.Gives.{Gives, gives_got, gives_bad, gives_on, gives_pick}
use Rattle.data_field.specs.Fields.{live, byte_at}
use Rattle.data_field.specs.declared.fields.Deletion.{Deletion}
use Rattle.data_field.specs.declared.fields.Span.{Span}
use Rattle.data_cell.specs.declared.cells.Times.{Times}
use Rattle.data_cell.specs.declared.cells.Cell.{Cell}
use Rattle.data_field.proofs.Ranges.{ValueIn, DeletionIn}
use Rattle.data_cell.proofs.Gives.{TimesIn, CellOk}
use Rattle.data_clustering.specs.Prefixes.{prefix_at}
use Rattle.data_clustering.specs.Sizes.{sizes_at}
use Rattle.data_clustering.proofs.Gives.{ValuesIn}
use Rattle.data_row.specs.Flags.{row_flags_at, extended_of, extended_at}
use Rattle.data_turns.specs.Turns.{may_stand}
use Rattle.data_row.specs.Rows.{rest_at, row_at}
use Rattle.data_row.specs.declared.rows.Row.{Row}
use Rattle.data_row.proofs.Gives.{RestOk, RowOk}
use Rattle.data_marker.specs.Kinds.{marker_flags_at, kind_at, count_at}
use Rattle.data_turns.specs.Turns.{is_start}
use Rattle.data_marker.specs.Markers.{second_at, deletions_at, body_at, bound_at, marker_at}
use Rattle.data_turns.specs.Turns.{same_deletion}
use Rattle.data_marker.specs.declared.markers.Deletions.{Deletions}
use Rattle.data_marker.specs.declared.markers.Marker.{Marker}
use Rattle.data_marker.proofs.Gives.{first_gives, MarkerOk}
use Rattle.data_partition.proofs.Gives.{partition_gives}
use Rattle.data_contents.specs.Contents.{Widths, Entry, static_entry, row_entry, marker_entry, open_behind, row_entry_at, marker_entry_at, entry_at, closed_at, entries_in, entries_at, whole_at, partitions_in, contents_at}
use Rattle.data_contents.proofs.Gives.{CellsIn, RowIn, EntryIn, entry_gives}
use Rattle.write_form.specs.Views.{show_value, show_values, show_cell, show_cells, show_row, show_entry, show_entries, show_partition, show_contents}
use Rattle.write_form.specs.Fits.{ValueFits, ValuesFit, CellFits, CellsFit, RowFits, EntryFits, EntriesFit, PartitionFits, AllFit}
use Rattle.write_form.proofs.Fields.{shown_none}
use Rattle.write_form.proofs.Whole.{open_shown}

any : {A : Type 0} (x : Got A) → Gives x (λ a n. Unit)
any x = record { given = λ a n e. tt }

both : {A : Type 0} {P Q : A → ℕ → Type 0} {x : Got A} → Gives x P → Gives x Q → Gives x (λ a n. P a n × Q a n)
both g h = record { given = λ a n e. (g.given a n e, h.given a n e) }

-- ---- values and cells
length_shown : (s : List ℕ) (start len : ℕ) → start + len ≤ length s → length (shown s start len) ≡ len
unfolding shown part pick
length_shown s start len h = rw (le-ltb (length s) start (omega arith), le-ltb (length s - start) len (omega arith)) (simp (length-take, length-drop) (omega arith))

module _ (s : List ℕ) (short : length s < 2 ^ 64) where
  value_fits : (w : ℕ) (v : Span) → ValueIn s w v → ValueFits w (show_value s v)
  value_fits w v i =
      let l : length (show_value s v) ≡ v.len = length_shown s v.start v.len i.lies in
      record { fills = λ e k. l ∙ i.fills e (rw l at k); short = omega (arith, i.lies) }

  values_fit : (ws : List ℕ) (vs : List Span) → ValuesIn s ws vs → ValuesFit ws (show_values s vs)
  values_fit [] [] i = tt
  values_fit [] (v ∷ vs) i = i
  values_fit (w ∷ ws) [] i = i
  values_fit (w ∷ ws) (v ∷ vs) i = (value_fits w v i.0, values_fit ws vs i.1)

  cell_fits : (b : Bases) (row : Times) (w : ℕ) (c : Cell) → TimesIn b row → CellOk s b row w c → CellFits b w (show_cell s c)
  cell_fits b row w c r i =
      let k = i.fits r in
      record {
        kind = k.kind;
        timestamp = k.timestamp;
        local = k.local;
        ttl = k.ttl;
        plain = k.plain;
        tombstone = λ e. let z = k.tombstone e in (z.0, ap (show_value s) z.1 ∙ shown_none s);
        value = value_fits w c.value i.value;
      }

  cells_fit : (b : Bases) (row : Times) (ws : List ℕ) (cs : List (Option Cell)) → TimesIn b row → CellsIn s b row ws cs → CellsFit b ws (show_cells s cs)
  cells_fit b row [] [] r i = tt
  cells_fit b row [] (none ∷ cs) r i = i
  cells_fit b row [] (some c ∷ cs) r i = i
  cells_fit b row (w ∷ ws) [] r i = i
  cells_fit b row (w ∷ ws) (none ∷ cs) r i = cells_fit b row ws cs r i
  cells_fit b row (w ∷ ws) (some c ∷ cs) r i = (cell_fits b row w c r i.0, cells_fit b row ws cs r i.1)

  -- ---- rows
  module _ (t : Widths) (b : Bases) (at end : ℕ) where
    times_of_lem : (r : Row) (n : ℕ) → RowOk b t.clustering (length t.statics) (length t.regulars) s at end r n → TimesIn b r.body.times × DeletionIn b r.body.deletion
    times_of_lem r n g = of g.rest
      where
        of : ((r.extended ≡ 1) × RestOk b [] (length t.statics) s g.clustering end r n) ⊎ ((r.extended ≡ 0) × RestOk b t.clustering (length t.regulars) s g.clustering end r n)
            → TimesIn b r.body.times × DeletionIn b r.body.deletion
        of (inl z) = (z.1.body.times, z.1.body.deletion)
        of (inr z) = (z.1.body.times, z.1.body.deletion)

    row_fits : (ws : List ℕ) (r : Row) (cs : List (Option Cell)) (n : ℕ) → RowIn t b s at end ws r cs n → RowFits b ws (show_row s r cs)
    row_fits ws r cs n g =
        let k = times_of_lem r g.first g.row in
        record { times = k.0; deletion = k.1; cells = cells_fit b r.body.times ws cs k.0 g.cells }

-- a static row stands first, and where static columns exist
module _ (first statics : ℕ) where
  abbrev Turn : ℕ → Type 0
  Turn x = x ≡ 1 → may_stand first statics ≡ true

  extended_of_lem : (x at n : ℕ) → Gives (extended_of first statics x at n) (λ y m. Turn y)
  unfolding extended_of
  extended_of_lem x at n =
      gives_pick (eqb x 0) (λ e. gives_got _ _ (λ z. absurd (omega arith))) (λ e.
      gives_pick (eqb x 1)
      (λ f. gives_pick (may_stand first statics) (λ h. gives_got _ _ (λ z. h)) (λ h. gives_bad _ _)) (λ f.
      gives_pick (eqb x 2) (λ h. gives_bad _ _) (λ h.
      gives_pick (eqb x 128) (λ i. gives_bad _ _) (λ i. gives_bad _ _))))

  extended_turn : (f : ℕ) (s : List ℕ) (at end : ℕ) → Gives (extended_at f first statics s at end) (λ y m. Turn y)
  unfolding extended_at
  extended_turn f s at end =
      gives_pick (eqb (f / 128 % 2) 1)
      (λ e. gives_on _ (any (byte_at s at end)) (λ x n g. extended_of_lem x at n))
      (λ e. gives_got _ _ (λ z. absurd (omega arith)))

  rest_extended : (b : Bases) (ws : List ℕ) (k start f x : ℕ) (s : List ℕ) (at end : ℕ) → Gives (rest_at b ws k start f x s at end) (λ r n. r.extended ≡ x)
  unfolding rest_at
  rest_extended b ws k start f x s at end = gives_on _ (any _) (λ p m g. gives_on _ (any _) (λ y n h. gives_got _ _ refl))

  row_turn : (b : Bases) (ws : List ℕ) (regulars : ℕ) (s : List ℕ) (at end : ℕ) → Gives (row_at b ws statics regulars first s at end) (λ r n. Turn r.extended)
  unfolding row_at
  row_turn b ws regulars s at end =
      gives_on _ (any (row_flags_at s at end)) (λ f m g.
      gives_on _ (extended_turn f s m end) (λ x p h.
      gives_pick (eqb x 1) (λ e. record { given = λ r n d z. h (eqb-true x 1 e) }) (λ e. record {
        given = λ r n d z. let y = (rest_extended b ws regulars at f 0 s p end).given r n d in absurd (omega arith);
      })))

-- ---- markers: an end or boundary has the open range's deletion
module _ (b : Bases) (opened : Deletion) (s : List ℕ) where
  abbrev Same : ℕ → Deletions → Type 0
  Same kind d = is_start kind ≡ false → same_deletion opened d.first ≡ true

  deletions_same : (kind at end : ℕ) → Gives (deletions_at b kind opened s at end) (λ d n. Same kind d)
  unfolding deletions_at
  deletions_same kind at end =
      gives_on _ (first_gives b kind s opened at end) (λ d m g.
      gives_on _ (any (second_at b kind s m end)) (λ e n j.
      gives_pick (ltb n end) (λ c. gives_bad _ _) (λ c. gives_got _ _ g.2)))

  body_same : (kind at end : ℕ) → Gives (body_at b kind opened s at end) (λ d n. Same kind d)
  unfolding body_at
  body_same kind at end = gives_on _ (any (sizes_at s at end)) (λ stop m g. deletions_same kind m stop)

  bound_same : (ws : List ℕ) (start kind at end : ℕ) → Gives (bound_at b ws opened start kind s at end) (λ m n. Same m.kind m.deletions)
  unfolding bound_at
  bound_same ws start kind at end =
      gives_on _ (any (count_at (length ws) s at end)) (λ count p g.
      gives_on _ (any (prefix_at (take count ws) s p end)) (λ x q j.
      gives_on _ (body_same kind q end) (λ d n i.
      gives_got _ _ i)))

  marker_same : (ws : List ℕ) (at end : ℕ) → Gives (marker_at b ws opened s at end) (λ m n. Same m.kind m.deletions)
  unfolding marker_at
  marker_same ws at end =
      gives_on _ (any (marker_flags_at s at end)) (λ f p g.
      gives_on _ (any (kind_at opened.deleted s p end)) (λ kind q j.
      bound_same ws at kind q end))

-- ---- entries
-- what an entry asks of its turn
abbrev InTurn : Widths → ℕ → Deletion → Entry → Type 0
InTurn t first opened (static_entry r cs) = may_stand first (length t.statics) ≡ true
InTurn t first opened (row_entry r vs cs) = Unit
InTurn t first opened (marker_entry m n vs) = is_start m.kind ≡ false → same_deletion opened m.deletions.first ≡ true

values_count : (s : List ℕ) (ws : List ℕ) (vs : List Span) → ValuesIn s ws vs → length (show_values s vs) ≡ length ws
values_count s [] [] i = refl
values_count s [] (v ∷ vs) i = absurd (omega arith)
values_count s (w ∷ ws) [] i = absurd (omega arith)
values_count s (w ∷ ws) (v ∷ vs) i = ap suc (values_count s ws vs i.1)

count_take : (k : ℕ) (ws : List ℕ) → k ≤ length ws → length (take k ws) ≡ k
count_take k ws h = simp length-take (omega arith)

module _ (s : List ℕ) (short : length s < 2 ^ 64) (t : Widths) (b : Bases) where
  marker_fits : (opened : Deletion) (at end n : ℕ) (m : Marker) (vs : List Span) → ValuesIn s (take m.count t.clustering) vs → MarkerOk b t.clustering opened s at end m n
      → (is_start m.kind ≡ false → same_deletion opened m.deletions.first ≡ true) → EntryFits b t 0 opened (show_entry s (marker_entry m n vs))
  marker_fits opened at end n m vs v g h =
      let k : length (show_values s vs) ≡ m.count = values_count s (take m.count t.clustering) vs v ∙ count_take m.count t.clustering g.rest.count in
      record {
        kind = g.kind;
        turn = g.turn;
        same = h;
        count = omega (arith, g.rest.count);
        values = subst (λ z. ValuesFit (take z t.clustering) (show_values s vs)) (sym k) (values_fit s short (take m.count t.clustering) vs v);
        deletions = g.rest.deletions;
      }

  entry_fits : (first : ℕ) (opened : Deletion) (at end n : ℕ) (e : Entry) → EntryIn t b s opened at end e n → InTurn t first opened e → EntryFits b t first opened (show_entry s e)
  entry_fits first opened at end n (static_entry r cs) g h = (h, row_fits s short t b at end t.statics r cs n g.1)
  entry_fits first opened at end n (row_entry r vs cs) g h = (values_fit s short t.clustering vs g.1, row_fits s short t b at end t.regulars r cs n g.2)
  entry_fits first opened at end n (marker_entry m q vs) g h = marker_fits opened at end n m vs g.1 g.2 h

  row_entry_turn : (first : ℕ) (opened : Deletion) (at end : ℕ) → Gives (row_entry_at t b first s at end) (λ e n. InTurn t first opened e)
  unfolding row_entry_at
  row_entry_turn first opened at end =
      gives_on _ (row_turn first (length t.statics) b t.clustering (length t.regulars) s at end) (λ r n g.
      gives_pick (eqb r.extended 1)
      (λ e. gives_on _ (any _) (λ cs m _. gives_got _ _ (g (eqb-true r.extended 1 e))))
      (λ e. gives_on _ (any _) (λ vs q _. gives_on _ (any _) (λ cs m _. gives_got _ _ tt))))

  marker_entry_turn : (first : ℕ) (opened : Deletion) (at end : ℕ) → Gives (marker_entry_at t b opened s at end) (λ e n. InTurn t first opened e)
  unfolding marker_entry_at
  marker_entry_turn first opened at end =
      gives_on _ (marker_same b opened s t.clustering at end) (λ m n g.
      gives_on _ (any _) (λ vs q _. gives_got _ _ g))

  entry_turn : (first : ℕ) (opened : Deletion) (f at end : ℕ) → Gives (entry_at t b first opened f s at end) (λ e n. InTurn t first opened e)
  unfolding entry_at
  entry_turn first opened f at end = gives_pick (eqb f 2) (λ e. marker_entry_turn first opened at end) (λ e. row_entry_turn first opened at end)

  entries_fit : (j first : ℕ) (opened : Deletion) (at end : ℕ) → Gives (entries_in j t b first opened s at end) (λ es p. EntriesFit b t first opened (show_entries s es))
  unfolding entries_in closed_at
  entries_fit zero first opened at end = gives_bad _ _
  entries_fit (suc j) first opened at end =
      gives_on _ (any (byte_at s at end)) (λ f n _.
      gives_pick (eqb f 1)
      (λ e. gives_pick (eqb opened.deleted 0) (λ d. gives_got _ _ (eqb-true opened.deleted 0 d)) (λ d. gives_bad _ _))
      (λ e.
      gives_on _ (both (entry_gives t b s at end first opened f) (entry_turn first opened f at end)) (λ x m h.
      gives_on _ (entries_fit j 0 (open_behind opened x) m end) (λ es p k.
      gives_got _ _ (entry_fits first opened at end m x h.0 h.1, subst (λ o. EntriesFit b t 0 o (show_entries s es)) (open_shown s opened x) k)))))

  -- ---- partitions
  module _ (bytes : (k : ℕ) → get_or s k 0 < 256) where
    whole_fits : (at end : ℕ) → Gives (whole_at t b s at end) (λ x n. PartitionFits b t (show_partition s x))
    unfolding whole_at entries_at
    whole_fits at end =
        gives_on _ (partition_gives s bytes end at) (λ h m g.
        gives_on _ (entries_fit (end - m) 1 live m end) (λ es p k.
        gives_got _ _ (record { key = omega (arith, length_shown s h.key.start h.key.len g.lies, g.short); deletion = g.deletion; entries = k })))

    partitions_fit : (j at end : ℕ) → Gives (partitions_in j t b s at end) (λ xs n. AllFit b t (show_contents s xs))
    unfolding partitions_in
    partitions_fit zero at end = gives_got _ _ tt
    partitions_fit (suc j) at end =
        gives_pick (eqb at end) (λ e. gives_got _ _ tt) (λ e.
        gives_on _ (whole_fits at end) (λ x m g.
        gives_on _ (partitions_fit j m end) (λ xs n k.
        gives_got _ _ (g, k))))

    pub contents_fit : (at end : ℕ) → Gives (contents_at t b s at end) (λ xs n. AllFit b t (show_contents s xs))
    unfolding contents_at
    contents_fit at end = partitions_fit (end - at) at end
