-- A record table is taken where a table like it, places aside, is taken; and it shows the same. Assumes nothing.
use mathlib.Core.Path.{◌≡◌, refl, sym, subst, ap, ◌∙◌}
use mathlib.Core.Bool.{Bool, true, false}
use mathlib.Core.List.{List, [], ◌∷◌}
use mathlib.Core.Option.{Option, none, some}
use Prim.Native.Nat.{ℕ, zero, suc, ◌+◌, ◌-◌, ◌*◌, ◌≤◌}
use native.Mathlib.Omega.{arith}
use lib.Dec.{eqb}
use lib.ListN.{length, get_or}
use Rattle.common.specs.Choose.{pick}
use Rattle.common.specs.Got.{got, on}
use Rattle.common.specs.Store.{shown}
use Rattle.common.specs.declared.times.Bases.{Bases}
use Rattle.data_field.specs.Fields.{deletion, live}
use Rattle.data_field.specs.declared.fields.Deletion.{Deletion}
use Rattle.data_cell.specs.declared.cells.Cell.{Cell}
use Rattle.data_marker.specs.declared.markers.Deletions.{Deletions}
use Rattle.data_items.specs.Items.{shows_value}
use Rattle.data_items.specs.declared.Item.{Item}
use Rattle.data_contents.specs.Contents.{Widths, Entry, Contents, open_behind}
use Rattle.write_form.specs.Views.{CellView, RowView, MarkerView, static_view, row_view, marker_view, PartitionView, show_value, show_values, show_cell, show_cells, show_row, show_entry, show_entries, show_partition, show_contents}
use Rattle.write_form.specs.Fits.{open_view}
use Rattle.write_form.proofs.Whole.{open_shown}
use Rattle.write_accept.specs.Fields.{item_of}
use Rattle.write_accept.specs.Records.{record_at, kind_at}
use Rattle.write_accept.specs.Tests.{unlike, bad_partition, bad_row, bad_static, bad_marker, bad_clustering, bad_cell, bad_end}
use Rattle.write_accept.specs.Entries.{value_of, deletion_of, deletions_of, cell_of, row_of, taken_values, taken_prefix, is_cell, taken_cells, taken_static, taken_row, taken_marker, taken_entry, taken_end, taken_entries_in, taken_entries, baseless, taken_partition, taken_in, taken_at}
use Rattle.write_accept.proofs.Goods.{not_first, alike}
use Rattle.write_accept.proofs.Again.{row_view_lem, marker_view_lem, partition_view, pair}
use Rattle.write_accept.proofs.Moved.{Follows, follows_got, follows_bad, follows_on, follows_pick, placed, Placed, to_clustering, to_cell, to_partition, to_cell_view, to_row, to_static, to_marker, to_end, to_times, to_deletion, to_second, Moved, record_follows}

-- the place of a whole record
abbrev pub At : ℕ → Type 0
At at = (k : ℕ) × (at ≡ 64 * k)

at_next : (at n : ℕ) → n ≡ at + 64 → At at → At n
at_next at n e p = (suc p.0, omega (arith, p.1))

value_kind : (bytes : List ℕ) (column w : ℕ) (i : Item) → bad_clustering bytes column w i ≡ false → shows_value i.kind ≡ true
unfolding bad_clustering shows_value pick
value_kind bytes column w i e = rw (alike _ _ (not_first (unlike i.kind 5) _ e)) refl

cell_kind : (bytes : List ℕ) (column w : ℕ) (i : Item) → bad_cell bytes column w i ≡ false → shows_value i.kind ≡ true
unfolding bad_cell shows_value pick
cell_kind bytes column w i e = rw (alike _ _ (not_first (unlike i.kind 6) _ e)) refl

key_kind : (bytes : List ℕ) (i : Item) → bad_partition bytes i ≡ false → shows_value i.kind ≡ true
unfolding bad_partition shows_value pick
key_kind bytes i e = rw (alike _ _ (not_first (unlike i.kind 1) _ e)) refl

-- the record of `table` at at is that of s but for its place, and shows the same in the bytes `other`
pub record Carried (bytes other s table : List ℕ) (at : ℕ) : Type 0 where
  pub moved : Moved s table at
  pub shows : shows_value (item_of s at).kind ≡ true
      → (shown bytes (item_of s at).offset (item_of s at).length ≡ shown other moved.offset moved.len) × Placed other (placed (item_of s at) moved.offset moved.len)

module _ (bytes other s table : List ℕ) (end : ℕ) (carried : (k : ℕ) → 64 * k + 64 ≤ end → Carried bytes other s table (64 * k))
    (first_byte : (k : ℕ) → get_or s (64 * k) 0 ≡ get_or table (64 * k) 0) (third_byte : (k : ℕ) → get_or s (64 * k + 2) 0 ≡ get_or table (64 * k + 2) 0) where
  carried_at : (at : ℕ) → At at → at + 64 ≤ end → Carried bytes other s table at
  carried_at at p h = subst (Carried bytes other s table) (sym p.1) (carried p.0 (omega (arith, p.1)))

  first_at_lem : (at : ℕ) → At at → get_or s at 0 ≡ get_or table at 0
  first_at_lem at p = subst (λ z. get_or s z 0 ≡ get_or table z 0) (sym p.1) (first_byte p.0)

  third_at : (at : ℕ) → At at → get_or s (at + 2) 0 ≡ get_or table (at + 2) 0
  third_at at p = subst (λ z. get_or s (z + 2) 0 ≡ get_or table (z + 2) 0) (sym p.1) (third_byte p.0)

  cell_at : (column at : ℕ) → At at → is_cell column s at ≡ is_cell column table at
  unfolding is_cell
  cell_at column at p = rw (first_at_lem at p, third_at at p) refl

  module _ (b : Bases) where
    abbrev Taken : (wrong : Item → Bool) (at : ℕ) → At at → Item → Item → ℕ → Type 0
    Taken wrong at p i j n =
        (h : at + 64 ≤ end) × ((i ≡ item_of s at) × ((j ≡ placed (item_of s at) (carried_at at p h).moved.offset (carried_at at p h).moved.len) × ((n ≡ at + 64) × (wrong (item_of s at) ≡ false))))

    -- ---- values
    value_follows : (column w at : ℕ) (p : At at) → Follows (record_at b (bad_clustering bytes column w) s at end) (record_at b (bad_clustering other column w) table at end)
        (λ i j n. (show_value bytes (value_of i) ≡ show_value other (value_of j)) × At n)
    value_follows column w at p = record {
      given = λ i n e.
          let r = (record_follows b (bad_clustering bytes column w) (bad_clustering other column w) s table at end (λ h. (carried_at at p h).moved) (λ h g.
          let z = (carried_at at p h).shows (value_kind bytes column w _ g) in
          to_clustering bytes other _ _ _ z.0 z.1 column w g)).given i n e in
          let q = r.holds in
          let z = (carried_at at p q.0).shows (value_kind bytes column w _ q.1.1.1.1) in
          record {
            value = r.value;
            is = r.is;
            holds = (ap (λ (x : Item). show_value bytes (value_of x)) q.1.0 ∙ z.0 ∙ sym (ap (λ (x : Item). show_value other (value_of x)) q.1.1.0), at_next at n q.1.1.1.0 p);
          };
    }

    values_follow : (column : ℕ) (ws : List ℕ) (at : ℕ) → At at → Follows (taken_values b bytes column ws s at end) (taken_values b other column ws table at end) (λ vs us n. (show_values bytes vs ≡ show_values other us) × At n)
    unfolding taken_values
    values_follow column [] at p = follows_got _ _ _ (refl, p)
    values_follow column (w ∷ ws) at p =
        follows_on _ _ (value_follows column w at p) (λ i j n q.
        follows_on _ _ (values_follow (column + 1) ws n q.1) (λ vs us m r.
        follows_got _ _ _ (more q.0 r.0, r.1)))
      where
        more : {x y : List ℕ} {u v : List (List ℕ)} → x ≡ y → u ≡ v → ◌≡◌ {A = List (List ℕ)} (x ∷ u) (y ∷ v)
        more e f = rw (e, f) refl

    prefix_follows : (column : ℕ) (ws : List ℕ) (at : ℕ) → At at → Follows (taken_prefix b bytes column ws s at end) (taken_prefix b other column ws table at end) (λ vs us n. (show_values bytes vs ≡ show_values other us) × At n)
    unfolding taken_prefix
    prefix_follows column [] at p = follows_got _ _ _ (refl, p)
    prefix_follows column (w ∷ ws) at p =
        follows_pick _ _ (ap (λ z. eqb z 5) (first_at_lem at p))
        (follows_on _ _ (value_follows column w at p) (λ i j n q.
        follows_on _ _ (prefix_follows (column + 1) ws n q.1) (λ vs us m r.
        follows_got _ _ _ (more q.0 r.0, r.1))))
        (follows_got _ _ _ (refl, p))
      where
        more : {x y : List ℕ} {u v : List (List ℕ)} → x ≡ y → u ≡ v → ◌≡◌ {A = List (List ℕ)} (x ∷ u) (y ∷ v)
        more e f = rw (e, f) refl

    -- ---- cells
    cell_follows : (column w at : ℕ) (p : At at) → Follows (record_at b (bad_cell bytes column w) s at end) (record_at b (bad_cell other column w) table at end)
        (λ i j n. (show_cell bytes (cell_of i) ≡ show_cell other (cell_of j)) × At n)
    cell_follows column w at p = record {
      given = λ i n e.
          let r = (record_follows b (bad_cell bytes column w) (bad_cell other column w) s table at end (λ h. (carried_at at p h).moved) (λ h g.
          let z = (carried_at at p h).shows (cell_kind bytes column w _ g) in
          to_cell bytes other _ _ _ z.0 z.1 column w g)).given i n e in
          let q = r.holds in
          let z = (carried_at at p q.0).shows (cell_kind bytes column w _ q.1.1.1.1) in
          record {
            value = r.value;
            is = r.is;
            holds = (ap (λ (x : Item). show_cell bytes (cell_of x)) q.1.0 ∙ to_cell_view bytes other _ _ _ z.0 z.1 ∙ sym (ap (λ (x : Item). show_cell other (cell_of x)) q.1.1.0), at_next at n q.1.1.1.0 p);
          };
    }

    cells_follow : (column : ℕ) (ws : List ℕ) (at : ℕ) → At at → Follows (taken_cells b bytes column ws s at end) (taken_cells b other column ws table at end) (λ cs us n. (show_cells bytes cs ≡ show_cells other us) × At n)
    unfolding taken_cells
    cells_follow column [] at p = follows_got _ _ _ (refl, p)
    cells_follow column (w ∷ ws) at p =
        follows_pick _ _ (cell_at column at p)
        (follows_on _ _ (cell_follows column w at p) (λ i j n q.
        follows_on _ _ (cells_follow (column + 1) ws n q.1) (λ cs us m r.
        follows_got _ _ _ (more q.0 r.0, r.1))))
        (follows_on _ _ (cells_follow (column + 1) ws at p) (λ cs us m r. follows_got _ _ _ (ap (λ (z : List (Option CellView)). none ∷ z) r.0, r.1)))
      where
        more : {x y : CellView} {u v : List (Option CellView)} → x ≡ y → u ≡ v → ◌≡◌ {A = List (Option CellView)} (some x ∷ u) (some y ∷ v)
        more e f = rw (e, f) refl

    -- ---- entries
    -- a record that shows no value, and what it says
    whole_follows : {A : Type 0} (wrong : Item → Bool) (say : Item → A) (at : ℕ) (p : At at) → ((i : Item) (o l : ℕ) → wrong (placed i o l) ≡ wrong i) → ((i : Item) (o l : ℕ) → say (placed i o l) ≡ say i)
        → Follows (record_at b wrong s at end) (record_at b wrong table at end) (λ i j n. (say i ≡ say j) × At n)
    whole_follows wrong say at p f g = record {
      given = λ i n e.
          let r = (record_follows b wrong wrong s table at end (λ h. (carried_at at p h).moved) (λ h k. f _ _ _ ∙ k)).given i n e in
          let q = r.holds in
          record { value = r.value; is = r.is; holds = (ap say q.1.0 ∙ sym (g _ _ _) ∙ sym (ap say q.1.1.0), at_next at n q.1.1.1.0 p) };
    }

    abbrev said : Item → RowView
    said i = show_row [] (row_of 0 i) []

    said_same : (i : Item) (o l : ℕ) → said (placed i o l) ≡ said i
    said_same i o l = row_view_lem _ _ (to_times i o l) (to_deletion i o l) refl

    row_same : (i j : Item) (x : ℕ) (cs us : List (Option Cell)) → said i ≡ said j → show_cells bytes cs ≡ show_cells other us → show_row bytes (row_of x i) cs ≡ show_row other (row_of x j) us
    row_same i j x cs us e f = row_view_lem _ _ (ap (λ (z : RowView). z.times) e) (ap (λ (z : RowView). z.deletion) e) f

    module _ (t : Widths) where
      abbrev SameEntry : Entry → Entry → ℕ → Type 0
      SameEntry e u n = (show_entry bytes e ≡ show_entry other u) × At n

      static_follows : (first at : ℕ) → At at → Follows (taken_static t b bytes first s at end) (taken_static t b other first table at end) SameEntry
      unfolding taken_static
      static_follows first at p =
          follows_on _ _ (whole_follows (bad_static first (length t.statics)) said at p (to_static first _) said_same) (λ i j n q.
          follows_on _ _ (cells_follow 0 t.statics n q.1) (λ cs us m r.
          follows_got _ _ _ (ap static_view (row_same i j 1 cs us q.0 r.0), r.1)))

      row_follows : (at : ℕ) → At at → Follows (taken_row t b bytes s at end) (taken_row t b other table at end) SameEntry
      unfolding taken_row
      row_follows at p =
          follows_on _ _ (whole_follows (bad_row 3) said at p (to_row 3) said_same) (λ i j n q.
          follows_on _ _ (values_follow 0 t.clustering n q.1) (λ vs vs' k v.
          follows_on _ _ (cells_follow 0 t.regulars k v.1) (λ cs us m r.
          follows_got _ _ _ (both v.0 (row_same i j 0 cs us q.0 r.0), r.1))))
        where
          both : {x y : List (List ℕ)} {u v : RowView} → x ≡ y → u ≡ v → row_view x u ≡ row_view y v
          both e f = rw (e, f) refl

      marker_said : Item → MarkerView
      marker_said i = record { kind = i.column; values = []; deletions = deletions_of i }

      marker_said_same : (i : Item) (o l : ℕ) → marker_said (placed i o l) ≡ marker_said i
      unfolding marker_said
      marker_said_same i o l = marker_view_lem _ _ refl _ _ refl _ _ (second (to_second i o l))
        where
          second : {x y : Deletion} → x ≡ y → ◌≡◌ {A = Deletions} (record { first = deletion 1 i.mark i.local; second = x }) (record { first = deletion 1 i.mark i.local; second = y })
          second e = rw e refl

      marker_follows : (opened : Deletion) (at : ℕ) → At at → Follows (taken_marker t b bytes opened s at end) (taken_marker t b other opened table at end) SameEntry
      unfolding taken_marker marker_said
      marker_follows opened at p =
          follows_on _ _ (whole_follows (bad_marker opened) marker_said at p (to_marker opened) marker_said_same) (λ i j n q.
          follows_on _ _ (prefix_follows 0 t.clustering n q.1) (λ vs us m r.
          follows_got _ _ _ (ap marker_view (marker_view_lem _ _ (ap (λ (z : MarkerView). z.kind) q.0) _ _ r.0 _ _ (ap (λ (z : MarkerView). z.deletions) q.0)), r.1)))

      -- ---- entries
      entry_follows : (first : ℕ) (opened : Deletion) (kind at : ℕ) → At at → Follows (taken_entry t b bytes first opened kind s at end) (taken_entry t b other first opened kind table at end) SameEntry
      unfolding taken_entry
      entry_follows first opened kind at p =
          follows_pick _ _ refl (static_follows first at p)
          (follows_pick _ _ refl (row_follows at p)
          (follows_pick _ _ refl (marker_follows opened at p) (follows_bad _ _ _)))

      kind_follows : (at : ℕ) → At at → Follows (kind_at s at end) (kind_at table at end) (λ k l n. k ≡ l)
      unfolding kind_at
      kind_follows at p = follows_pick _ _ refl (follows_bad _ _ _) (follows_got _ _ _ (first_at_lem at p))

      open_same : (opened : Deletion) (e u : Entry) → show_entry bytes e ≡ show_entry other u → open_behind opened e ≡ open_behind opened u
      open_same opened e u f = open_shown bytes opened e ∙ ap (open_view opened) f ∙ sym (open_shown other opened u)

      abbrev SameEntries : List Entry → List Entry → ℕ → Type 0
      SameEntries es us n = (show_entries bytes es ≡ show_entries other us) × At n

      entries_follow : (j first : ℕ) (opened : Deletion) (at : ℕ) → At at → Follows (taken_entries_in j t b bytes first opened s at end) (taken_entries_in j t b other first opened table at end) SameEntries
      unfolding taken_entries_in taken_end
      entries_follow zero first opened at p = follows_bad _ _ _
      entries_follow (suc j) first opened at p =
          follows_on _ _ (kind_follows at p) (λ k l n e.
          follows_pick _ _ (ap (λ z. eqb z 7) e)
          (follows_on _ _ (whole_follows {A = ℕ} (bad_end opened) (λ (i : Item). i.kind) at p (to_end opened) (λ i o l. refl)) (λ i i' m q. follows_got _ _ _ (refl, q.1)))
          (subst (λ z. Follows
          (on (taken_entry t b bytes first opened k s at end) (λ e m. on (taken_entries_in j t b bytes 0 (open_behind opened e) s m end) (λ es p. got (e ∷ es) p)))
          (on (taken_entry t b other first opened z table at end) (λ e m. on (taken_entries_in j t b other 0 (open_behind opened e) table m end) (λ es p. got (e ∷ es) p))) SameEntries) e
          (follows_on _ _ (entry_follows first opened k at p) (λ x u m q.
          follows_on _ _
          (subst (λ o. Follows (taken_entries_in j t b bytes 0 (open_behind opened x) s m end) (taken_entries_in j t b other 0 o table m end) SameEntries) (open_same opened x u q.0) (entries_follow j 0 (open_behind opened x) m q.1))
          (λ es us h r. follows_got _ _ _ (pair _ _ q.0 _ _ r.0, r.1))))))

      -- ---- partitions
      abbrev SamePartition : Contents → Contents → ℕ → Type 0
      SamePartition x y n = (show_partition bytes x ≡ show_partition other y) × At n

      header_follows : (at : ℕ) (p : At at) → Follows (record_at baseless (bad_partition bytes) s at end) (record_at baseless (bad_partition other) table at end)
          (λ i j n. (show_value bytes (value_of i) ≡ show_value other (value_of j)) × ((deletion_of i ≡ deletion_of j) × At n))
      header_follows at p = record {
        given = λ i n e.
            let r = (record_follows baseless (bad_partition bytes) (bad_partition other) s table at end (λ h. (carried_at at p h).moved) (λ h g.
            let z = (carried_at at p h).shows (key_kind bytes _ g) in
            to_partition bytes other _ _ _ z.0 z.1 g)).given i n e in
            let q = r.holds in
            let z = (carried_at at p q.0).shows (key_kind bytes _ q.1.1.1.1) in
            record {
              value = r.value;
              is = r.is;
              holds = (
                ap (λ (x : Item). show_value bytes (value_of x)) q.1.0 ∙ z.0 ∙ sym (ap (λ (x : Item). show_value other (value_of x)) q.1.1.0),
                (ap deletion_of q.1.0 ∙ sym (to_deletion _ _ _) ∙ sym (ap deletion_of q.1.1.0), at_next at n q.1.1.1.0 p),
              );
            };
      }

      partition_follows : (at : ℕ) → At at → Follows (taken_partition t b bytes s at end) (taken_partition t b other table at end) SamePartition
      unfolding taken_partition taken_entries
      partition_follows at p =
          follows_on _ _ (header_follows at p) (λ i j n q.
          follows_on _ _ (entries_follow (end - n) 1 live n q.1.1) (λ es us m r.
          follows_got _ _ _ (partition_view _ _ q.0 _ _ q.1.0 _ _ r.0, r.1)))

      all_follow : (j at : ℕ) → At at → Follows (taken_in j t b bytes s at end) (taken_in j t b other table at end) (λ ps qs n. (show_contents bytes ps ≡ show_contents other qs) × At n)
      unfolding taken_in
      all_follow zero at p = follows_got _ _ _ (refl, p)
      all_follow (suc j) at p =
          follows_pick _ _ refl (follows_got _ _ _ (refl, p))
          (follows_on _ _ (partition_follows at p) (λ x y n q.
          follows_on _ _ (all_follow j n q.1) (λ ps qs m r.
          follows_got _ _ _ (more q.0 r.0, r.1))))
        where
          more : {x y : PartitionView} {u v : List PartitionView} → x ≡ y → u ≡ v → ◌≡◌ {A = List PartitionView} (x ∷ u) (y ∷ v)
          more e f = rw (e, f) refl

      -- a whole table
      pub taken_carried : Follows (taken_at t b bytes s 0 end) (taken_at t b other table 0 end) (λ ps qs n. (show_contents bytes ps ≡ show_contents other qs) × At n)
      unfolding taken_at
      taken_carried = all_follow (end - 0) 0 (0, refl)
