-- The listing of contents shows what the contents show: equal views list alike, places aside. Assumes nothing.
use mathlib.Core.Path.{◌≡◌, refl, sym, ap, ◌∙◌}
use mathlib.Core.Bool.{Bool, true, false}
use mathlib.Core.List.{List, [], ◌∷◌, ◌++◌}
use mathlib.Core.Option.{Option, none, some}
use Prim.Native.Nat.{ℕ, ◌+◌, ◌-◌, ◌*◌, ◌/◌, ◌%◌, ◌≤◌, ◌<◌}
use native.Mathlib.Omega.{arith}
use borrow.Author.Tests.{le-ltb}
use lib.Dec.{eqb}
use lib.ListN.{length}
use Rattle.common.specs.Choose.{pick, bind}
use Rattle.common.proofs.Choose.{pick_no}
use Rattle.data_field.specs.declared.fields.Span.{Span}
use Rattle.data_cell.specs.declared.cells.Cell.{Cell}
use Rattle.data_row.specs.declared.rows.Row.{Row}
use Rattle.data_marker.specs.declared.markers.Marker.{Marker}
use Rattle.data_items.specs.Items.{item, zeroed, mark_of, time_of, partition_flags, cell_flags, partition_item, row_item, marker_item, value_item, cell_item, end_item, shows_value, value_of}
use Rattle.data_items.specs.declared.Item.{Item}
use Rattle.data_contents.specs.Contents.{Entry, static_entry, row_entry, marker_entry, Contents, values_listed, cells_listed, entry_listed, entries_listed, partition_listed, listed}
use Rattle.write_form.specs.Views.{CellView, RowView, MarkerView, EntryView, static_view, row_view, marker_view, PartitionView, show_value, show_values, show_cell, show_cells, show_row, show_marker, show_entry, show_entries, show_partition, show_contents}
use Rattle.write_form.proofs.Fields.{shown_none}
use Rattle.write_accept.specs.Listings.{nowhere, placeless, all_placeless, ItemView, show_item, show_items}
use Rattle.write_accept.proofs.Goods.{shown_length}
use Rattle.write_accept.proofs.Heads.{Flagged}

-- ---- places of whole items do not show
placeless_item : (i : Item) → nowhere (placeless i) ≡ nowhere i
unfolding placeless pick
placeless_item i = go (shows_value i.kind)
  where
    go : (t : Bool) → nowhere (pick t i (nowhere i)) ≡ nowhere i
    go true = refl
    go false = refl

placeless_value : (s : List ℕ) (i : Item) → value_of s (placeless i) ≡ value_of s i
unfolding placeless value_of pick
placeless_value s i = go (shows_value i.kind) refl
  where
    whole : shows_value i.kind ≡ false → value_of s (nowhere i) ≡ []
    whole e = sym (pick_no _ _ _ (shows_value i.kind) e refl)

    go : (t : Bool) → shows_value i.kind ≡ t → value_of s (pick t i (nowhere i)) ≡ value_of s i
    go true e = refl
    go false e = whole e ∙ pick_no _ _ _ (shows_value i.kind) e refl

view_is : (x y : ItemView) → x.item ≡ y.item → x.value ≡ y.value → x ≡ y
view_is x y e f = go x.item y.item e x.value y.value f
  where
    go : (a c : Item) → a ≡ c → (u v : List ℕ) → u ≡ v → ◌≡◌ {A = ItemView} (record { item = a; value = u }) (record { item = c; value = v })
    go a c e u v f = rw (e, f) refl

more : (x y : ItemView) → x ≡ y → (u v : List ItemView) → u ≡ v → ◌≡◌ {A = List ItemView} (x ∷ u) (y ∷ v)
more x y e u v f = rw (e, f) refl

placeless_shows : (s : List ℕ) (l : List Item) → show_items s (all_placeless l) ≡ show_items s l
placeless_shows s [] = refl
placeless_shows s (i ∷ l) = more _ _ (view_is _ _ (placeless_item i) (placeless_value s i)) _ _ (placeless_shows s l)

pub shows_same : (s : List ℕ) (l m : List Item) → all_placeless l ≡ all_placeless m → show_items s l ≡ show_items s m
shows_same s l m e = sym (placeless_shows s l) ∙ ap (show_items s) e ∙ placeless_shows s m

-- ---- what a view lists
value_view : ℕ → List ℕ → ItemView
value_view column v = record { item = item 5 (partition_flags 0 (length v)) column 0 zeroed zeroed 0 0 zeroed 0 0 0; value = v }

cell_view : ℕ → CellView → ItemView
cell_view column c =
    pick (eqb c.kind 2)
    (record { item = item 6 5 column 0 c.timestamp zeroed c.local 0 zeroed 0 0 0; value = [] })
    (record { item = item 6 (cell_flags c.kind (length c.value)) column c.ttl c.timestamp zeroed 0 c.local zeroed 0 0 0; value = c.value })

head_view : ℕ → RowView → ItemView
head_view kind r = record {
  item = item kind (r.times.timed + 2 * r.times.expires + 4 * r.deletion.deleted) 0 r.times.ttl (time_of r.times) (mark_of r.deletion) r.deletion.local r.times.local zeroed 0 0 0;
  value = [];
}

bound_view : MarkerView → ItemView
bound_view m = record {
  item = item 4 4 m.kind 0 zeroed m.deletions.first.mark m.deletions.first.local 0 (mark_of m.deletions.second) m.deletions.second.local 0 0;
  value = [];
}

key_view : PartitionView → ItemView
key_view p = record {
  item = item 1 (partition_flags p.deletion.deleted (length p.key)) 0 0 zeroed (mark_of p.deletion) p.deletion.local 0 zeroed 0 0 0;
  value = p.key;
}

end_view : ItemView
end_view = record { item = item 7 0 0 0 zeroed zeroed 0 0 zeroed 0 0 0; value = [] }

abbrev values_view : ℕ → List (List ℕ) → List ItemView
values_view i [] = []
values_view i (v ∷ vs) = value_view i v ∷ values_view (i + 1) vs

abbrev cells_view : ℕ → List (Option CellView) → List ItemView
cells_view i [] = []
cells_view i (none ∷ cs) = cells_view (i + 1) cs
cells_view i (some c ∷ cs) = cell_view i c ∷ cells_view (i + 1) cs

abbrev entry_view : EntryView → List ItemView
entry_view (static_view r) = head_view 2 r ∷ cells_view 0 r.cells
entry_view (row_view vs r) = head_view 3 r ∷ (values_view 0 vs ++ cells_view 0 r.cells)
entry_view (marker_view m) = bound_view m ∷ values_view 0 m.values

abbrev entries_view : List EntryView → List ItemView
entries_view [] = end_view ∷ []
entries_view (e ∷ es) = entry_view e ++ entries_view es

pub listed_view : List PartitionView → List ItemView
listed_view [] = []
listed_view (p ∷ ps) = (key_view p ∷ entries_view p.entries) ++ listed_view ps

-- ---- keys and values lie in the bytes s, and flags tell times and deletions
abbrev pub Lies : List ℕ → Span → Type 0
Lies s v = v.start + v.len ≤ length s

abbrev pub ValuesLie : List ℕ → List Span → Type 0
ValuesLie s [] = Unit
ValuesLie s (v ∷ vs) = Lies s v × ValuesLie s vs

abbrev pub CellsLie : List ℕ → List (Option Cell) → Type 0
CellsLie s [] = Unit
CellsLie s (none ∷ cs) = CellsLie s cs
CellsLie s (some c ∷ cs) = Lies s c.value × CellsLie s cs

abbrev pub EntryLies : List ℕ → Entry → Type 0
EntryLies s (static_entry r cs) = Flagged r × CellsLie s cs
EntryLies s (row_entry r vs cs) = Flagged r × (ValuesLie s vs × CellsLie s cs)
EntryLies s (marker_entry m n vs) = ValuesLie s vs

abbrev pub EntriesLie : List ℕ → List Entry → Type 0
EntriesLie s [] = Unit
EntriesLie s (e ∷ es) = EntryLies s e × EntriesLie s es

abbrev pub AllLie : List ℕ → List Contents → Type 0
AllLie s [] = Unit
AllLie s (p ∷ ps) = (Lies s p.header.key × EntriesLie s p.entries) × AllLie s ps

module _ (s : List ℕ) where
  lies_length : (v : Span) → Lies s v → length (show_value s v) ≡ v.len
  lies_length v h = shown_length s v.start v.len (le-ltb (length s) v.start (omega arith)) (le-ltb (length s - v.start) v.len (omega arith))

  -- ---- items
  value_shows : (column : ℕ) (v : Span) → Lies s v → show_item s (value_item column v) ≡ value_view column (show_value s v)
  unfolding value_item bind value_view value_of shows_value pick
  value_shows column v h = view_is _ _ (ap (λ n. item 5 (partition_flags 0 n) column 0 zeroed zeroed 0 0 zeroed 0 0 0) (sym (lies_length v h))) refl

  cell_shows : (column : ℕ) (c : Cell) → Lies s c.value → show_item s (cell_item column c) ≡ cell_view column (show_cell s c)
  unfolding cell_item bind cell_view value_of shows_value pick
  cell_shows column c h = go (eqb c.kind 2)
    where
      go : (t : Bool) → show_item s (pick t (item 6 5 column 0 c.timestamp zeroed c.local 0 zeroed 0 0 0) (item 6 (cell_flags c.kind c.value.len) column c.ttl c.timestamp zeroed 0 c.local zeroed 0 c.value.start c.value.len))
          ≡ pick t (record { item = item 6 5 column 0 c.timestamp zeroed c.local 0 zeroed 0 0 0; value = [] })
          (record { item = item 6 (cell_flags c.kind (length (show_value s c.value))) column c.ttl c.timestamp zeroed 0 c.local zeroed 0 0 0; value = show_value s c.value })
      go true = view_is _ _ refl (shown_none s)
      go false = view_is _ _ (ap (λ n. item 6 (cell_flags c.kind n) column c.ttl c.timestamp zeroed 0 c.local zeroed 0 0 0) (sym (lies_length c.value h))) refl

  row_bits : (f : ℕ) → f / 4 % 8 ≡ f / 4 % 2 + 2 * (f / 8 % 2) + 4 * (f / 16 % 2)
  row_bits f =
      let a : f / 8 ≡ f / 4 / 2 = omega arith in
      let c : f / 16 ≡ f / 4 / 4 = omega arith in
      rw (a, c) (bits (f / 4))
    where
      halves : (x : ℕ) → x ≡ 2 * (x / 2) + x % 2
      halves x = omega arith

      quarter : (x : ℕ) → x / 2 / 2 ≡ x / 4
      quarter x = omega arith

      small : (x : ℕ) → x % 2 ≤ 1
      small x = omega arith

      low : (g z r : ℕ) → g ≡ 8 * z + r → r < 8 → g % 8 ≡ r
      low g z r e l = omega arith

      bits : (g : ℕ) → g % 8 ≡ g % 2 + 2 * (g / 2 % 2) + 4 * (g / 4 % 2)
      bits g =
          let p = halves (g / 2) in
          let q : g / 2 ≡ 2 * (g / 4) + g / 2 % 2 = rw (quarter g) at p in
          low g (g / 4 / 2) _ (sum g (g / 2) (g / 4) (g / 4 / 2) (g % 2) (g / 2 % 2) (g / 4 % 2) (halves g) q (halves (g / 4))) (few (g % 2) (g / 2 % 2) (g / 4 % 2) (small g) (small (g / 2)) (small (g / 4)))
        where
          sum : (g h k z a b c : ℕ) → g ≡ 2 * h + a → h ≡ 2 * k + b → k ≡ 2 * z + c → g ≡ 8 * z + (a + 2 * b + 4 * c)
          sum g h k z a b c e f i = omega arith

          few : (a b c : ℕ) → a ≤ 1 → b ≤ 1 → c ≤ 1 → a + 2 * b + 4 * c < 8
          few a b c e f i = omega arith

  row_shows : (kind : ℕ) (r : Row) (cs : List (Option Cell)) → shows_value kind ≡ false → Flagged r → show_item s (row_item kind r) ≡ head_view kind (show_row s r cs)
  unfolding row_item bind head_view value_of
  row_shows kind r cs e z = view_is _ _ (ap (λ n. item kind n 0 r.body.times.ttl (time_of r.body.times) (mark_of r.body.deletion) r.body.deletion.local r.body.times.local zeroed 0 0 0) flags) (sym (pick_no _ _ _ _ e refl))
    where
      flags : r.flags / 4 % 8 ≡ r.body.times.timed + 2 * r.body.times.expires + 4 * r.body.deletion.deleted
      flags = row_bits r.flags ∙ sums _ _ _ _ _ _ z.timed z.expires z.deleted
        where
          sums : (a b c x y w : ℕ) → a ≡ x → b ≡ y → c ≡ w → a + 2 * b + 4 * c ≡ x + 2 * y + 4 * w
          sums a b c x y w e f g = rw (e, f, g) refl

  marker_shows : (m : Marker) (n : ℕ) (vs : List Span) → show_item s (marker_item m n) ≡ bound_view (show_marker s m vs)
  unfolding marker_item bind bound_view value_of shows_value pick
  marker_shows m n vs = refl

  key_shows : (p : Contents) → Lies s p.header.key → show_item s (partition_item p.header) ≡ key_view (show_partition s p)
  unfolding partition_item bind key_view value_of shows_value pick
  key_shows p h =
      view_is _ _ (ap (λ n. item 1 (partition_flags p.header.deletion.deleted n) 0 0 zeroed (mark_of p.header.deletion) p.header.deletion.local 0 zeroed 0 0 0) (sym (lies_length p.header.key h))) refl

  end_shows : (at : ℕ) → show_item s (end_item at) ≡ end_view
  unfolding end_item end_view value_of shows_value pick
  end_shows at = refl

  -- ---- lists of them
  both : (l m : List Item) → show_items s (l ++ m) ≡ show_items s l ++ show_items s m
  both [] m = refl
  both (i ∷ l) m = ap (λ (z : List ItemView). show_item s i ∷ z) (both l m)

  join : (a c u v : List ItemView) → a ≡ c → u ≡ v → a ++ u ≡ c ++ v
  join a c u v e f = rw (e, f) refl

  values_show : (i : ℕ) (vs : List Span) → ValuesLie s vs → show_items s (values_listed i vs) ≡ values_view i (show_values s vs)
  values_show i [] h = refl
  values_show i (v ∷ vs) h = more _ _ (value_shows i v h.0) _ _ (values_show (i + 1) vs h.1)

  cells_show : (i : ℕ) (cs : List (Option Cell)) → CellsLie s cs → show_items s (cells_listed i cs) ≡ cells_view i (show_cells s cs)
  cells_show i [] h = refl
  cells_show i (none ∷ cs) h = cells_show (i + 1) cs h
  cells_show i (some c ∷ cs) h = more _ _ (cell_shows i c h.0) _ _ (cells_show (i + 1) cs h.1)

  whole_shows : (shows_value 2 ≡ false) × (shows_value 3 ≡ false)
  unfolding shows_value pick
  whole_shows = (refl, refl)

  entry_shows : (e : Entry) → EntryLies s e → show_items s (entry_listed e) ≡ entry_view (show_entry s e)
  entry_shows (static_entry r cs) h = more _ _ (row_shows 2 r cs whole_shows.0 h.0) _ _ (cells_show 0 cs h.1)
  entry_shows (row_entry r vs cs) h =
      more _ _ (row_shows 3 r cs whole_shows.1 h.0) _ _ (both (values_listed 0 vs) (cells_listed 0 cs) ∙ join _ _ _ _ (values_show 0 vs h.1.0) (cells_show 0 cs h.1.1))
  entry_shows (marker_entry m n vs) h = more _ _ (marker_shows m n vs) _ _ (values_show 0 vs h)

  entries_show : (es : List Entry) (p : ℕ) → EntriesLie s es → show_items s (entries_listed es p) ≡ entries_view (show_entries s es)
  entries_show [] p h = more _ _ (end_shows p) _ _ refl
  entries_show (e ∷ es) p h = both (entry_listed e) (entries_listed es p) ∙ join _ _ _ _ (entry_shows e h.0) (entries_show es p h.1)

  pub listed_shows : (ps : List Contents) → AllLie s ps → show_items s (listed ps) ≡ listed_view (show_contents s ps)
  unfolding listed_view
  listed_shows [] h = refl
  listed_shows (p ∷ ps) h =
      both (partition_listed p) (listed ps)
      ∙ join _ _ _ _ (more _ _ (key_shows p h.0.0) _ _ (entries_show p.entries p.end h.0.1)) (listed_shows ps h.1)
