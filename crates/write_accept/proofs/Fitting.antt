-- What is taken can be written: it fits the bases and the columns, with the bytes that it shows. Assumes nothing.
use mathlib.Core.Path.{◌≡◌, refl, subst, ap, ◌∙◌}
use mathlib.Core.Bool.{Bool, true, false}
use mathlib.Core.List.{List, [], ◌∷◌}
use Prim.Native.Nat.{ℕ, zero, suc, ◌+◌, ◌-◌, ◌%◌, ◌^◌, ◌≤◌, ◌<◌}
use native.Mathlib.Omega.{arith}
use borrow.Author.Tests.{ltb-false, eqb-false, eq-eqb}
use lib.Dec.{ltb, eqb}
use lib.ListN.{length, get_or, take}
use Rattle.common.specs.Choose.{pick}
use Rattle.common.specs.Got.{Got}
use Rattle.common.specs.Store.{shown}
use Rattle.common.specs.declared.times.Bases.{Bases}
use Rattle.common.proofs.Choose.{pick_ind}
use Rattle.common.proofs.Gives.{Gives, gives_got, gives_bad, gives_on, gives_pick}
use Rattle.data_field.specs.Fields.{deletion, live}
use Rattle.data_field.specs.declared.fields.Deletion.{Deletion}
use Rattle.data_field.proofs.Ranges.{TimestampIn, LocalIn, DeletionIn, deletion_none}
use Rattle.data_cell.proofs.Gives.{TimesIn}
use Rattle.data_turns.specs.Turns.{may_stand}
use Rattle.data_turns.specs.Turns.{bad_kind, is_start, is_boundary, out_of_turn}
use Rattle.data_turns.specs.Turns.{same_deletion}
use Rattle.data_marker.proofs.Gives.{DeletionsIn}
use Rattle.data_partition.proofs.Gives.{DeletedIn}
use Rattle.data_items.specs.declared.Item.{Item}
use Rattle.data_contents.specs.Contents.{Widths, Entry, static_entry, row_entry, marker_entry, open_behind}
use Rattle.write_form.specs.Views.{show_value, show_values, show_cell, show_cells, show_entry, show_entries, show_partition, show_contents}
use Rattle.write_form.specs.Fits.{ValueFits, ValuesFit, CellFits, CellsFit, EntryFits, open_view, EntriesFit, PartitionFits, AllFit}
use Rattle.write_form.proofs.Fields.{shown_none}
use Rattle.write_accept.specs.Fields.{has_time, has_expiry, has_local, has_mark, has_second}
use Rattle.write_accept.specs.Records.{kind_at}
use Rattle.write_accept.specs.Tests.{unlike, bad_place, bad_nowhere, bad_key, bad_value, bad_partition_flags, bad_value_flags, bad_cell_flags, bad_partition, bad_row, bad_static, bad_first, bad_marker, bad_clustering, bad_cell_place, bad_cell, bad_end}
use Rattle.write_accept.specs.Entries.{value_of, deletion_of, second_of, times_of, cell_of, deletions_of, taken_values, taken_prefix, is_cell, taken_cells, taken_static, taken_row, taken_marker, taken_entry, taken_end, taken_entries_in, taken_entries, baseless, taken_partition, taken_in, taken_at}
use Rattle.write_accept.proofs.Goods.{never, not_first, not_second, not_else, not_then, alike, yes_or_no, Ranged, record_gives, place_length, place_short, nowhere_offset, nowhere_length, width_fills}

any : {A : Type 0} (x : Got A) → Gives x (λ a n. Unit)
any x = record { given = λ a n e. tt }

-- ---- values
module _ (bytes : List ℕ) (short : length bytes < 2 ^ 64) where
  none_fits : (w : ℕ) (v : List ℕ) → v ≡ [] → ValueFits w v
  none_fits w v e =
      let l : length v ≡ 0 = ap length e in
      record { fills = λ f g. absurd (omega arith); short = omega arith }

  nowhere_shows : (i : Item) → bad_nowhere i ≡ false → shown bytes i.offset i.length ≡ []
  nowhere_shows i e = rw (nowhere_offset i e, nowhere_length i e) (shown_none bytes)

  value_fits : (w : ℕ) (i : Item) → bad_value bytes w i ≡ false → ValueFits w (show_value bytes (value_of i))
  unfolding bad_value
  value_fits w i e =
      let p = not_first (bad_place bytes i) _ e in
      let l = place_length bytes i p in
      let k = place_short bytes i p in
      record {
        fills = λ f g. l ∙ width_fills w i.length (not_second (bad_place bytes i) _ e) f;
        short = omega arith;
      }

  clustering_fits : (column w : ℕ) (i : Item) → bad_clustering bytes column w i ≡ false → ValueFits w (show_value bytes (value_of i))
  unfolding bad_clustering
  clustering_fits column w i e =
      let f = not_second (unlike i.column column) _ (not_second (bad_value_flags i.flags) _ (not_second (unlike i.kind 5) _ e)) in
      yes_or_no (eqb i.flags 8)
      (λ g. none_fits w _ (nowhere_shows i (not_then (eqb i.flags 8) _ _ f g)))
      (λ g. value_fits w i (not_else (eqb i.flags 8) _ _ f g))

  -- ---- cells
  cell_timed : (f : ℕ) → bad_cell_flags f ≡ false → eqb (f % 2) 1 ≡ true
  unfolding bad_cell_flags
  cell_timed f e =
      let g = eqb-false (f % 2) 0 (not_second (eqb f 7) _ (not_second (ltb 11 f) _ e)) in
      eq-eqb (f % 2) 1 (omega arith)

  cell_has_time : (column w : ℕ) (i : Item) → bad_cell bytes column w i ≡ false → has_time i ≡ true
  unfolding bad_cell has_time
  cell_has_time column w i e = cell_timed i.flags (not_first (bad_cell_flags i.flags) _ (not_second (unlike i.kind 6) _ e))

  cell_value : (column w : ℕ) (i : Item) → bad_cell bytes column w i ≡ false → has_local i ≡ false → ValueFits w (show_value bytes (value_of i))
  unfolding bad_cell bad_cell_place
  cell_value column w i e h =
      let f = not_second (unlike i.column column) _ (not_second (bad_cell_flags i.flags) _ (not_second (unlike i.kind 6) _ e)) in
      let g = not_else (has_local i) _ _ f h in
      yes_or_no (ltb 8 i.flags)
      (λ k. none_fits w _ (nowhere_shows i (not_then (ltb 8 i.flags) _ _ g k)))
      (λ k. value_fits w i (not_else (ltb 8 i.flags) _ _ g k))

  cell_fits : (b : Bases) (column w : ℕ) (i : Item) → bad_cell bytes column w i ≡ false → Ranged b i → CellFits b w (show_cell bytes (cell_of i))
  unfolding cell_of
  cell_fits b column w i e r =
      let t = r.timestamp (cell_has_time column w i e) in
      pick_ind (λ c. CellFits b w (show_cell bytes c)) _ _ (has_local i)
      (λ f. record {
        kind = omega arith;
        timestamp = t;
        local = λ _. r.local f;
        ttl = λ z. absurd (omega arith);
        plain = λ z. absurd (omega arith);
        tombstone = λ _. (refl, shown_none bytes);
        value = none_fits w _ (shown_none bytes);
      })
      (λ f.
      pick_ind (λ c. CellFits b w (show_cell bytes c)) _ _ (has_expiry i)
      (λ g. record {
        kind = omega arith;
        timestamp = t;
        local = λ _. r.expiry g;
        ttl = λ _. r.ttl g;
        plain = λ z. absurd (omega arith);
        tombstone = λ z. absurd (omega arith);
        value = cell_value column w i e f;
      })
      (λ g. record {
        kind = omega arith;
        timestamp = t;
        local = λ z. absurd (omega arith);
        ttl = λ z. absurd (omega arith);
        plain = λ _. (refl, refl);
        tombstone = λ z. absurd (omega arith);
        value = cell_value column w i e f;
      }))

  module _ (b : Bases) (s : List ℕ) (end : ℕ) where
    pub values_fit : (column : ℕ) (ws : List ℕ) (at : ℕ) → Gives (taken_values b bytes column ws s at end) (λ vs n. ValuesFit ws (show_values bytes vs))
    unfolding taken_values
    values_fit column [] at = gives_got _ _ tt
    values_fit column (w ∷ ws) at =
        gives_on _ (record_gives b (bad_clustering bytes column w) s at end) (λ i n g.
        gives_on _ (values_fit (column + 1) ws n) (λ vs m h.
        gives_got _ _ (clustering_fits column w i g.right, h)))

    -- as many values as there are of the first columns
    pub prefix_fits : (column : ℕ) (ws : List ℕ) (at : ℕ)
        → Gives (taken_prefix b bytes column ws s at end) (λ vs n. (length (show_values bytes vs) ≤ length ws) × ValuesFit (take (length (show_values bytes vs)) ws) (show_values bytes vs))
    unfolding taken_prefix
    prefix_fits column [] at = gives_got _ _ (omega arith, tt)
    prefix_fits column (w ∷ ws) at =
        gives_pick (eqb (get_or s at 0) 5)
        (λ e.
        gives_on _ (record_gives b (bad_clustering bytes column w) s at end) (λ i n g.
        gives_on _ (prefix_fits (column + 1) ws n) (λ vs m h.
        gives_got _ _ (omega (arith, h.0), (clustering_fits column w i g.right, h.1)))))
        (λ e. gives_got _ _ (omega arith, tt))

    pub cells_fit : (column : ℕ) (ws : List ℕ) (at : ℕ) → Gives (taken_cells b bytes column ws s at end) (λ cs n. CellsFit b ws (show_cells bytes cs))
    unfolding taken_cells
    cells_fit column [] at = gives_got _ _ tt
    cells_fit column (w ∷ ws) at =
        gives_pick (is_cell column s at)
        (λ e.
        gives_on _ (record_gives b (bad_cell bytes column w) s at end) (λ i n g.
        gives_on _ (cells_fit (column + 1) ws n) (λ cs m h.
        gives_got _ _ (cell_fits b column w i g.right g.ranged, h))))
        (λ e. gives_on _ (cells_fit (column + 1) ws at) (λ cs m h. gives_got _ _ h))

-- ---- rows and markers
times_in_lem : (b : Bases) (i : Item) → Ranged b i → TimesIn b (times_of i)
unfolding times_of
times_in_lem b i r =
    pick_ind (TimesIn b) _ _ (has_time i)
    (λ e.
    pick_ind (TimesIn b) _ _ (has_expiry i)
    (λ f. record {
      timed = omega arith;
      expires = omega arith;
      timestamp = λ _. r.timestamp e;
      local = λ _. r.expiry f;
      ttl = λ _. r.ttl f;
      untimed = λ z. absurd (omega arith);
      lasting = λ z. absurd (omega arith);
    })
    (λ f. record {
      timed = omega arith;
      expires = omega arith;
      timestamp = λ _. r.timestamp e;
      local = λ z. absurd (omega arith);
      ttl = λ z. absurd (omega arith);
      untimed = λ z. absurd (omega arith);
      lasting = λ _. (refl, refl);
    }))
    (λ e. record {
      timed = omega arith;
      expires = omega arith;
      timestamp = λ z. absurd (omega arith);
      local = λ z. absurd (omega arith);
      ttl = λ z. absurd (omega arith);
      untimed = λ _. refl;
      lasting = λ _. (refl, refl);
    })

-- a deletion that is there
deletion_in : (b : Bases) (t x : ℕ) → TimestampIn b t → LocalIn b x → DeletionIn b (deletion 1 t x)
deletion_in b t x g h = record { deleted = omega arith; mark = λ _. g; local = λ _. h; none = λ z. absurd (omega arith) }

-- a row, partition or marker with a deletion has a mark
has_mark_lem : (i : Item) → eqb i.kind 6 ≡ false → has_local i ≡ true → has_mark i ≡ true
unfolding has_mark pick
has_mark_lem i e f = rw e f

deleted_in : (b : Bases) (i : Item) → eqb i.kind 6 ≡ false → Ranged b i → DeletionIn b (deletion_of i)
unfolding deletion_of
deleted_in b i e r = pick_ind (DeletionIn b) _ _ (has_local i) (λ f. deletion_in b _ _ (r.mark (has_mark_lem i e f)) (r.local f)) (λ f. deletion_none b)

no_cell : (i : Item) (kind : ℕ) → unlike i.kind kind ≡ false → eqb kind 6 ≡ false → eqb i.kind 6 ≡ false
no_cell i kind e f = rw (alike i.kind kind e) f

row_kind : (kind : ℕ) (i : Item) → bad_row kind i ≡ false → unlike i.kind kind ≡ false
unfolding bad_row
row_kind kind i e = not_first (unlike i.kind kind) _ e

static_stands : (first statics : ℕ) (i : Item) → bad_static first statics i ≡ false → may_stand first statics ≡ true
unfolding bad_static pick
static_stands first statics i e = go (may_stand first statics) refl e
  where
    go : (t : Bool) → may_stand first statics ≡ t → pick t (bad_row 2 i) true ≡ false → may_stand first statics ≡ true
    go true f g = f
    go false f g = never g

pub static_row : (first statics : ℕ) (i : Item) → bad_static first statics i ≡ false → bad_row 2 i ≡ false
unfolding bad_static
static_row first statics i e = not_then (may_stand first statics) _ _ e (static_stands first statics i e)

same_deletion_lem : (opened : Deletion) (i : Item) → bad_first opened i ≡ false → is_start i.column ≡ false → same_deletion opened (deletion 1 i.mark i.local) ≡ true
unfolding bad_first pick
same_deletion_lem opened i e f = go (same_deletion opened (deletion 1 i.mark i.local)) refl (not_else (is_start i.column) _ _ e f)
  where
    go : (t : Bool) → same_deletion opened (deletion 1 i.mark i.local) ≡ t → pick t false true ≡ false → same_deletion opened (deletion 1 i.mark i.local) ≡ true
    go true g h = g
    go false g h = never h

-- what is known of a marker's item
record Marks (opened : Deletion) (i : Item) : Type 0 where
  kind : i.kind ≡ 4
  flags : i.flags ≡ 4
  bound : bad_kind i.column ≡ false
  turn : out_of_turn i.column opened.deleted ≡ false
  first : bad_first opened i ≡ false

marks : (opened : Deletion) (i : Item) → bad_marker opened i ≡ false → Marks opened i
unfolding bad_marker
marks opened i e =
    let f = not_second (unlike i.kind 4) _ e in
    let g = not_second (unlike i.flags 4) _ f in
    let h = not_second (bad_kind i.column) _ g in
    record {
      kind = alike _ _ (not_first (unlike i.kind 4) _ e);
      flags = alike _ _ (not_first (unlike i.flags 4) _ f);
      bound = not_first (bad_kind i.column) _ g;
      turn = not_first (out_of_turn i.column opened.deleted) _ h;
      first = not_second (out_of_turn i.column opened.deleted) _ h;
    }

marker_local : (i : Item) → i.flags ≡ 4 → has_local i ≡ true
unfolding has_local
marker_local i e = rw e refl

marker_second : (i : Item) → i.kind ≡ 4 → has_second i ≡ is_boundary i.column
unfolding has_second pick
marker_second i e = rw e refl

second_in : (b : Bases) (i : Item) → Ranged b i → DeletionIn b (second_of i)
unfolding second_of
second_in b i r = pick_ind (DeletionIn b) _ _ (has_second i) (λ f. deletion_in b _ _ (r.mark2 f) (r.local2 f)) (λ f. deletion_none b)

second_deleted : (i : Item) → has_second i ≡ true → (second_of i).deleted ≡ 1
unfolding second_of pick
second_deleted i e = rw e refl

second_live : (i : Item) → has_second i ≡ false → second_of i ≡ live
unfolding second_of pick
second_live i e = rw e refl

deletions_in : (b : Bases) (opened : Deletion) (i : Item) → bad_marker opened i ≡ false → Ranged b i → DeletionsIn b i.column (deletions_of i)
deletions_in b opened i e r =
    let m = marks opened i e in
    let l = marker_local i m.flags in
    let c : eqb i.kind 6 ≡ false = rw m.kind refl in
    let k = marker_second i m.kind in
    record {
      deleted = refl;
      first = deletion_in b _ _ (r.mark (has_mark_lem i c l)) (r.local l);
      second = second_in b i r;
      boundary = λ f. second_deleted i (k ∙ f);
      bound = λ f. second_live i (k ∙ f);
    }

-- ---- entries
open_same : (bytes : List ℕ) (opened : Deletion) (e : Entry) → open_behind opened e ≡ open_view opened (show_entry bytes e)
open_same bytes opened (static_entry r cs) = refl
open_same bytes opened (row_entry r vs cs) = refl
open_same bytes opened (marker_entry m n vs) = refl

end_closed : (opened : Deletion) (i : Item) → bad_end opened i ≡ false → opened.deleted ≡ 0
unfolding bad_end
end_closed opened i e = alike _ _ (not_second (unlike i.flags 0) _ (not_second (unlike i.kind 7) _ e))

module _ (t : Widths) (b : Bases) (bytes : List ℕ) (short : length bytes < 2 ^ 64) (s : List ℕ) (end : ℕ) where
  static_fits : (first : ℕ) (opened : Deletion) (at : ℕ) → Gives (taken_static t b bytes first s at end) (λ e n. EntryFits b t first opened (show_entry bytes e))
  unfolding taken_static
  static_fits first opened at =
      gives_on _ (record_gives b (bad_static first (length t.statics)) s at end) (λ i n g.
      gives_on _ (cells_fit bytes short b s end 0 t.statics n) (λ cs m h.
      let k = no_cell i 2 (row_kind 2 i (static_row first _ i g.right)) refl in
      gives_got _ _ (static_stands first _ i g.right, record { times = times_in_lem b i g.ranged; deletion = deleted_in b i k g.ranged; cells = h })))

  row_fits : (first : ℕ) (opened : Deletion) (at : ℕ) → Gives (taken_row t b bytes s at end) (λ e n. EntryFits b t first opened (show_entry bytes e))
  unfolding taken_row
  row_fits first opened at =
      gives_on _ (record_gives b (bad_row 3) s at end) (λ i n g.
      gives_on _ (values_fit bytes short b s end 0 t.clustering n) (λ vs p v.
      gives_on _ (cells_fit bytes short b s end 0 t.regulars p) (λ cs m h.
      gives_got _ _ (v, record { times = times_in_lem b i g.ranged; deletion = deleted_in b i (no_cell i 3 (row_kind 3 i g.right) refl) g.ranged; cells = h }))))

  marker_fits : (first : ℕ) (opened : Deletion) (at : ℕ) → Gives (taken_marker t b bytes opened s at end) (λ e n. EntryFits b t first opened (show_entry bytes e))
  unfolding taken_marker
  marker_fits first opened at =
      gives_on _ (record_gives b (bad_marker opened) s at end) (λ i n g.
      gives_on _ (prefix_fits bytes short b s end 0 t.clustering n) (λ vs m h.
      let k = marks opened i g.right in
      gives_got _ _ (record {
        kind = k.bound;
        turn = k.turn;
        same = same_deletion_lem opened i k.first;
        count = h.0;
        values = h.1;
        deletions = deletions_in b opened i g.right g.ranged;
      })))

  entry_fits : (first : ℕ) (opened : Deletion) (kind at : ℕ) → Gives (taken_entry t b bytes first opened kind s at end) (λ e n. EntryFits b t first opened (show_entry bytes e))
  unfolding taken_entry
  entry_fits first opened kind at =
      gives_pick (eqb kind 2) (λ e. static_fits first opened at) (λ e.
      gives_pick (eqb kind 3) (λ f. row_fits first opened at) (λ f.
      gives_pick (eqb kind 4) (λ g. marker_fits first opened at) (λ g. gives_bad _ _)))

  entries_fit : (j first : ℕ) (opened : Deletion) (at : ℕ) → Gives (taken_entries_in j t b bytes first opened s at end) (λ es n. EntriesFit b t first opened (show_entries bytes es))
  unfolding taken_entries_in taken_end
  entries_fit zero first opened at = gives_bad _ _
  entries_fit (suc j) first opened at =
      gives_on _ (any (kind_at s at end)) (λ kind n g.
      gives_pick (eqb kind 7)
      (λ e. gives_on _ (record_gives b (bad_end opened) s at end) (λ i m h. gives_got _ _ (end_closed opened i h.right)))
      (λ e.
      gives_on _ (entry_fits first opened kind at) (λ x m h.
      gives_on _ (entries_fit j 0 (open_behind opened x) m) (λ es p k.
      gives_got _ _ (h, subst (λ d. EntriesFit b t 0 d (show_entries bytes es)) (open_same bytes opened x) k)))))

-- ---- partitions
partition_deleted : (bytes : List ℕ) (i : Item) → bad_partition bytes i ≡ false → Ranged baseless i → DeletedIn (deletion_of i)
unfolding bad_partition deletion_of
partition_deleted bytes i e r =
    let c = no_cell i 1 (not_first (unlike i.kind 1) _ e) refl in
    pick_ind DeletedIn _ _ (has_local i)
    (λ f.
    let m = r.mark (has_mark_lem i c f) in
    record {
      deleted = omega arith;
      least = λ _. m.least;
      most = omega (arith, m.most);
      local = (r.local f).most;
      none = λ z. absurd (omega arith);
    })
    (λ f. record { deleted = omega arith; least = λ z. absurd (omega arith); most = omega arith; local = omega arith; none = λ _. (refl, refl) })

key_short : (bytes : List ℕ) (i : Item) → bad_partition bytes i ≡ false → length (show_value bytes (value_of i)) < 2 ^ 16
unfolding bad_partition bad_key
key_short bytes i e =
    let f = not_second (bad_partition_flags i.flags) _ (not_second (unlike i.kind 1) _ e) in
    yes_or_no (ltb 7 i.flags)
    (λ g.
    let h = not_then (ltb 7 i.flags) _ _ f g in
    let k : length (shown bytes i.offset i.length) ≡ 0 = rw (nowhere_offset i h, nowhere_length i h) (ap length (shown_none bytes)) in
    omega arith)
    (λ g.
    let h = not_else (ltb 7 i.flags) _ _ f g in
    let k = place_length bytes i (not_first (bad_place bytes i) _ h) in
    omega (arith, ltb-false 65535 i.length (not_second (bad_place bytes i) _ h)))

partition_fits : (t : Widths) (b : Bases) (bytes : List ℕ) → length bytes < 2 ^ 64 → (s : List ℕ) (at end : ℕ)
    → Gives (taken_partition t b bytes s at end) (λ p n. PartitionFits b t (show_partition bytes p))
unfolding taken_partition taken_entries
partition_fits t b bytes short s at end =
    gives_on _ (record_gives baseless (bad_partition bytes) s at end) (λ i n g.
    gives_on _ (entries_fit t b bytes short s end (end - n) 1 live n) (λ es m h.
    gives_got _ _ (record { key = key_short bytes i g.right; deletion = partition_deleted bytes i g.right g.ranged; entries = h })))

all_fit : (j : ℕ) (t : Widths) (b : Bases) (bytes : List ℕ) → length bytes < 2 ^ 64 → (s : List ℕ) (at end : ℕ) → Gives (taken_in j t b bytes s at end) (λ ps n. AllFit b t (show_contents bytes ps))
unfolding taken_in
all_fit zero t b bytes short s at end = gives_got _ _ tt
all_fit (suc j) t b bytes short s at end =
    gives_pick (eqb at end) (λ e. gives_got _ _ tt) (λ e.
    gives_on _ (partition_fits t b bytes short s at end) (λ p n g.
    gives_on _ (all_fit j t b bytes short s n end) (λ ps m h.
    gives_got _ _ (g, h))))

-- whatever is taken can be written
pub taken_fits : (t : Widths) (b : Bases) (bytes : List ℕ) → length bytes < 2 ^ 64 → (s : List ℕ) (at end : ℕ) → Gives (taken_at t b bytes s at end) (λ ps n. AllFit b t (show_contents bytes ps))
unfolding taken_at
taken_fits t b bytes short s at end = all_fit (end - at) t b bytes short s at end
