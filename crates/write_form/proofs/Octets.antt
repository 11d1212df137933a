-- The writer's form is of bytes, and not longer than its records allow: where every key and value has at most 2^30 bytes, each record of the
-- list adds at most 2^30 + 128. Assumes nothing.
use mathlib.Core.Path.{◌≡◌, refl, ap}
use mathlib.Core.Bool.{Bool, true, false}
use mathlib.Core.List.{List, [], ◌∷◌, ◌++◌}
use mathlib.Core.Option.{Option, none, some}
use Prim.Native.Nat.{ℕ, zero, suc, ◌+◌, ◌-◌, ◌*◌, ◌^◌, ◌≤◌, ◌<◌}
use native.Mathlib.Omega.{arith}
use native.Mathlib.Nat.{pow-succ', pow-le-pow_right}
use borrow.Author.Tests.{eqb-true, ltb-false}
use lib.Dec.{ltb, eqb, lit<}
use lib.ListN.{length, take, length-append}
use Rattle.common.specs.Choose.{pick}
use Rattle.number_varint.specs.Varints.{shortest}
use Rattle.common.specs.declared.times.Bases.{Bases}
use Rattle.common.proofs.Choose.{pick_ind}
use Rattle.number_varint.proofs.Within.{Within, append, wider, nothing, one, fixed_within, shortest_within, shown_within}
use Rattle.data_field.specs.Fields.{live}
use Rattle.data_field.specs.declared.fields.Deletion.{Deletion}
use Rattle.data_field.specs.declared.fields.Span.{Span}
use Rattle.data_cell.specs.declared.cells.Times.{Times}
use Rattle.data_cell.specs.declared.cells.Cell.{Cell}
use Rattle.data_field.proofs.Ranges.{TimestampIn, LocalIn, TTLIn, DeletionIn}
use Rattle.data_cell.proofs.Gives.{TimesIn}
use Rattle.data_turns.specs.Turns.{bad_kind}
use Rattle.data_marker.specs.declared.markers.Deletions.{Deletions}
use Rattle.data_marker.proofs.Gives.{DeletionsIn}
use Rattle.data_contents.specs.Contents.{Widths, Entry, static_entry, row_entry, marker_entry, Contents, values_listed, cells_listed, entry_listed, entries_listed, partition_listed, listed}
use Rattle.write_form.specs.Views.{CellView, RowView, MarkerView, EntryView, static_view, row_view, marker_view, PartitionView, show_values, show_cells, show_entry, show_entries, show_contents}
use Rattle.write_form.specs.Cells.{same_time, same_expiry, no_value, kind_bits, cell_flags, timestamp_bytes, ttl_bytes, expiry_bytes, length_bytes, field_bytes, value_bytes, last_bytes, tail_bytes, cell_bytes, numbers_of, cell_form}
use Rattle.write_form.specs.Clusterings.{header_of, header_bytes, clustering_bytes, values_bytes, prefix_bytes}
use Rattle.write_form.specs.Rows.{row_expiry_bytes, liveness_bytes, deletion_bytes, row_deletion_bytes, missing_of, missing_bytes, cells_bytes, row_flags, flags_of, content_bytes, sized_bytes, static_bytes, row_bytes}
use Rattle.write_form.specs.Markers.{deletions_bytes, bound_bytes, marker_bytes}
use Rattle.write_form.specs.Partitions.{deleted_bytes, head_bytes}
use Rattle.write_form.specs.Whole.{entry_bytes, back_behind, entries_bytes, partition_bytes, form_of}
use Rattle.write_form.proofs.Rows.{cells_length}
use Rattle.write_form.specs.Fits.{Bounded, ValuesFit, CellFits, CellsFit, RowFits, MarkerFits, EntryFits, open_view, EntriesFit, PartitionFits, AllFit}

-- ---- how many records list what is shown
abbrev pub cells_count : List (Option CellView) → ℕ
cells_count [] = 0
cells_count (none ∷ cs) = cells_count cs
cells_count (some c ∷ cs) = 1 + cells_count cs

abbrev pub entry_count : EntryView → ℕ
entry_count (static_view r) = 1 + cells_count r.cells
entry_count (row_view vs r) = 1 + (length vs + cells_count r.cells)
entry_count (marker_view m) = 1 + length m.values

-- with the end's record
abbrev pub entries_count : List EntryView → ℕ
entries_count [] = 1
entries_count (e ∷ es) = entry_count e + entries_count es

abbrev pub view_count : List PartitionView → ℕ
view_count [] = 0
view_count (p ∷ ps) = 1 + (entries_count p.entries + view_count ps)

-- what is shown of contents has a record for each of their items
module _ (s : List ℕ) where
  values_counted : (i : ℕ) (vs : List Span) → length (show_values s vs) ≡ length (values_listed i vs)
  values_counted i [] = refl
  values_counted i (v ∷ vs) = ap suc (values_counted (i + 1) vs)

  cells_counted_lem : (i : ℕ) (cs : List (Option Cell)) → cells_count (show_cells s cs) ≡ length (cells_listed i cs)
  cells_counted_lem i [] = refl
  cells_counted_lem i (none ∷ cs) = cells_counted_lem (i + 1) cs
  cells_counted_lem i (some c ∷ cs) = omega (arith, cells_counted_lem (i + 1) cs)

  entry_counted_lem : (e : Entry) → entry_count (show_entry s e) ≡ length (entry_listed e)
  entry_counted_lem (static_entry r cs) = omega (arith, cells_counted_lem 0 cs)
  entry_counted_lem (row_entry r vs cs) = omega (arith, length-append (values_listed 0 vs) (cells_listed 0 cs), values_counted 0 vs, cells_counted_lem 0 cs)
  entry_counted_lem (marker_entry m n vs) = omega (arith, values_counted 0 vs)

  entries_counted_lem : (es : List Entry) (end : ℕ) → entries_count (show_entries s es) ≡ length (entries_listed es end)
  entries_counted_lem [] end = refl
  entries_counted_lem (e ∷ es) end = omega (arith, length-append (entry_listed e) (entries_listed es end), entry_counted_lem e, entries_counted_lem es end)

  pub view_counted : (ps : List Contents) → view_count (show_contents s ps) ≡ length (listed ps)
  view_counted [] = refl
  view_counted (p ∷ ps) = omega (arith, length-append (partition_listed p) (listed ps), entries_counted_lem p.entries p.end, view_counted ps)

-- ---- keys and values of at most 2^30 bytes
abbrev pub Short : List ℕ → Type 0
Short v = Within 1073741824 v

abbrev pub ValuesShort : List (List ℕ) → Type 0
ValuesShort [] = Unit
ValuesShort (v ∷ vs) = Short v × ValuesShort vs

abbrev pub CellsShort : List (Option CellView) → Type 0
CellsShort [] = Unit
CellsShort (none ∷ cs) = CellsShort cs
CellsShort (some c ∷ cs) = Short c.value × CellsShort cs

abbrev pub EntryShort : EntryView → Type 0
EntryShort (static_view r) = CellsShort r.cells
EntryShort (row_view vs r) = ValuesShort vs × CellsShort r.cells
EntryShort (marker_view m) = ValuesShort m.values

abbrev pub EntriesShort : List EntryView → Type 0
EntriesShort [] = Unit
EntriesShort (e ∷ es) = EntryShort e × EntriesShort es

abbrev pub AllShort : List PartitionView → Type 0
AllShort [] = Unit
AllShort (p ∷ ps) = (Short p.key × EntriesShort p.entries) × AllShort ps

-- ---- what is shown of a slice within the limit
module _ (s : List ℕ) (h : Within 1073741824 s) where
  values_short : (vs : List Span) → ValuesShort (show_values s vs)
  values_short [] = tt
  values_short (v ∷ vs) = (shown_within _ s _ _ h, values_short vs)

  cells_short : (cs : List (Option Cell)) → CellsShort (show_cells s cs)
  cells_short [] = tt
  cells_short (none ∷ cs) = cells_short cs
  cells_short (some c ∷ cs) = (shown_within _ s _ _ h, cells_short cs)

  entries_short : (es : List Entry) → EntriesShort (show_entries s es)
  entries_short [] = tt
  entries_short (static_entry r cs ∷ es) = (cells_short cs, entries_short es)
  entries_short (row_entry r vs cs ∷ es) = ((values_short vs, cells_short cs), entries_short es)
  entries_short (marker_entry m n vs ∷ es) = (values_short vs, entries_short es)

  pub contents_short : (ps : List Contents) → AllShort (show_contents s ps)
  contents_short [] = tt
  contents_short (p ∷ ps) = ((shown_within _ s _ _ h, entries_short p.entries), contents_short ps)

-- ---- numbers
none_within : (n : ℕ) → Within n []
none_within n = wider 0 n [] (omega arith) nothing

bit_le : (t : Bool) (x y n : ℕ) → x ≤ n → y ≤ n → pick t x y ≤ n
bit_le t x y n h k = pick_ind (λ z. z ≤ n) _ _ t (λ e. h) (λ e. k)

not_zero : (k : ℕ) → eqb k 0 ≡ false → 1 ≤ k
not_zero zero e = let z : ◌≡◌ {A = ℕ} 0 1 = cc in absurd (omega arith)
not_zero (suc k) e = omega arith

module _ (b : Bases) where
  timestamp_within : (v : ℕ) → TimestampIn b v → Within 9 (shortest (v - b.timestamp))
  timestamp_within v h = shortest_within _ (omega (arith, h.most))

  local_within : (v : ℕ) → LocalIn b v → Within 9 (shortest (v - b.local))
  local_within v h = shortest_within _ (omega (arith, h.most))

  ttl_within : (v : ℕ) → TTLIn b v → Within 9 (shortest (v - b.ttl))
  ttl_within v h = shortest_within _ (omega (arith, h.most))

  two_within : (d : Deletion) → TimestampIn b d.mark → LocalIn b d.local → Within 18 (deletion_bytes b d)
  unfolding deletion_bytes
  two_within d h k = append 9 9 _ _ (timestamp_within _ h) (local_within _ k)

-- ---- values and cells
length_within : (w n : ℕ) → n < 2 ^ 64 → Within 9 (length_bytes w n)
unfolding length_bytes
length_within w n h = pick_ind (Within 9) _ _ _ (λ e. shortest_within n h) (λ e. none_within 9)

field_within : (w : ℕ) (v : List ℕ) → Short v → Within 1073741833 (field_bytes w v)
unfolding field_bytes
field_within w v h = append 9 1073741824 _ v (length_within w (length v) (omega (arith, h.most))) h

flags_within : (row : Times) (c : Cell) (n : ℕ) → Within 1 (cell_flags row c n ∷ [])
unfolding cell_flags kind_bits no_value same_time same_expiry
flags_within row c n =
    let kind : kind_bits c ≤ 2 = bit_le _ _ _ 2 (omega arith) (bit_le _ _ _ 2 (omega arith) (omega arith)) in
    let value : no_value c n ≤ 1 = bit_le _ _ _ 1 (omega arith) (bit_le _ _ _ 1 (omega arith) (omega arith)) in
    let time : same_time row c ≤ 1 = bit_le _ _ _ 1 (bit_le _ _ _ 1 (omega arith) (omega arith)) (omega arith) in
    let expiry : same_expiry row c ≤ 1 =
    bit_le _ _ _ 1 (bit_le _ _ _ 1 (bit_le _ _ _ 1 (bit_le _ _ _ 1 (omega arith) (omega arith)) (omega arith)) (omega arith)) (omega arith) in
    one _ (omega arith)

module _ (b : Bases) (row : Times) (w : ℕ) (c : CellView) (i : CellFits b w c) where
  time_within : Within 9 (timestamp_bytes b row (numbers_of c))
  unfolding timestamp_bytes
  time_within = pick_ind (Within 9) _ _ _ (λ e. none_within 9) (λ e. timestamp_within b c.timestamp i.timestamp)

  ttl_bytes_lem : Within 9 (ttl_bytes b (numbers_of c))
  unfolding ttl_bytes
  ttl_bytes_lem = pick_ind (Within 9) _ _ _ (λ e. ttl_within b c.ttl (i.ttl (eqb-true c.kind 1 e))) (λ e. none_within 9)

  expiry_within : Within 18 (expiry_bytes b row (numbers_of c))
  unfolding expiry_bytes
  expiry_within =
      pick_ind (Within 18) _ _ _ (λ e. none_within 18) (λ e.
      pick_ind (Within 18) _ _ _ (λ f. none_within 18) (λ f.
      append 9 9 _ _ (local_within b c.local (i.local (not_zero c.kind e))) ttl_bytes_lem))

  value_within : Short c.value → Within 1073741833 (value_bytes w (numbers_of c) c.value)
  unfolding value_bytes
  value_within h = pick_ind (Within 1073741833) _ _ _ (λ e. none_within _) (λ e. field_within w c.value h)

  cell_within : Short c.value → Within 1073741952 (cell_form b row w c)
  unfolding cell_bytes tail_bytes last_bytes
  cell_within h =
      wider (1 + (9 + (18 + 1073741833))) 1073741952 _ (omega arith)
      (append 1 _ _ _ (flags_within row (numbers_of c) (length c.value)) (append 9 _ _ _ time_within (append 18 _ _ _ expiry_within (value_within h))))

cells_within : (b : Bases) (row : Times) (ws : List ℕ) (cs : List (Option CellView)) → CellsFit b ws cs → CellsShort cs → Within (1073741952 * cells_count cs) (cells_bytes b row ws cs)
unfolding cells_bytes
cells_within b row [] [] i h = none_within _
cells_within b row [] (c ∷ cs) i h = none_within _
cells_within b row (w ∷ ws) [] i h = none_within _
cells_within b row (w ∷ ws) (none ∷ cs) i h = cells_within b row ws cs i h
cells_within b row (w ∷ ws) (some c ∷ cs) i h =
    wider (1073741952 + 1073741952 * cells_count cs) _ _ (omega arith) (append 1073741952 _ _ _ (cell_within b row w c i.0 h.0) (cells_within b row ws cs i.1 h.1))

-- ---- clustering values
header_lt : (vs : List (List ℕ)) → header_of vs < 4 ^ length vs
unfolding header_of
header_lt [] = omega arith
header_lt (v ∷ vs) =
    let bit : pick {A = ℕ} (eqb (length v) 0) 1 0 ≤ 1 = bit_le _ _ _ 1 (omega arith) (omega arith) in
    rw (pow-succ' 4 (length vs)) (omega (arith, header_lt vs))

header_within : (vs : List (List ℕ)) → length vs ≤ 32 → Within 9 (header_bytes vs)
unfolding header_bytes
header_within vs l =
    let most : 4 ^ length vs ≤ 4 ^ 32 = pow-le-pow_right (lit< tt) l in
    pick_ind (Within 9) _ _ _ (λ e. none_within 9) (λ e. shortest_within (header_of vs) (omega (arith, header_lt vs)))

clustering_within : (w : ℕ) (v : List ℕ) → Short v → Within 1073741952 (clustering_bytes w v)
unfolding clustering_bytes
clustering_within w v h = pick_ind (Within 1073741952) _ _ _ (λ e. none_within _) (λ e. wider 1073741833 _ _ (omega arith) (field_within w v h))

values_within : (ws : List ℕ) (vs : List (List ℕ)) → ValuesShort vs → Within (1073741952 * length vs) (values_bytes ws vs)
unfolding values_bytes
values_within [] vs h = none_within _
values_within (w ∷ ws) [] h = none_within _
values_within (w ∷ ws) (v ∷ vs) h =
    wider (1073741952 + 1073741952 * length vs) _ _ (omega arith) (append 1073741952 _ _ _ (clustering_within w v h.0) (values_within ws vs h.1))

prefix_within : (ws : List ℕ) (vs : List (List ℕ)) → length vs ≤ 32 → ValuesShort vs → Within (9 + 1073741952 * length vs) (prefix_bytes ws vs)
unfolding prefix_bytes
prefix_within ws vs l h = append 9 _ _ _ (header_within vs l) (values_within ws vs h)

values_count : (ws : List ℕ) (vs : List (List ℕ)) → ValuesFit ws vs → length vs ≡ length ws
values_count [] [] i = refl
values_count [] (v ∷ vs) i = absurd (omega arith)
values_count (w ∷ ws) [] i = absurd (omega arith)
values_count (w ∷ ws) (v ∷ vs) i = ap suc (values_count ws vs i.1)

-- ---- rows
module _ (b : Bases) where
  expiring_within : (row : Times) → TimesIn b row → Within 18 (row_expiry_bytes b row)
  unfolding row_expiry_bytes
  expiring_within row i =
      pick_ind (Within 18) _ _ _ (λ e.
      let l = eqb-true row.expires 1 e in
      append 9 9 _ _ (ttl_within b row.ttl (i.ttl (omega arith))) (local_within b row.local (i.local (omega arith)))) (λ e. none_within 18)

  liveness_within : (row : Times) → TimesIn b row → Within 27 (liveness_bytes b row)
  unfolding liveness_bytes
  liveness_within row i =
      pick_ind (Within 27) _ _ _ (λ e.
      let l = eqb-true row.timed 1 e in
      append 9 18 _ _ (timestamp_within b row.timestamp (i.timestamp (omega arith))) (expiring_within row i)) (λ e. none_within 27)

  deletion_within : (d : Deletion) → DeletionIn b d → d.deleted ≡ 1 → Within 18 (deletion_bytes b d)
  deletion_within d i e = two_within b d (i.mark (omega arith)) (i.local (omega arith))

  row_deletion_within : (d : Deletion) → DeletionIn b d → Within 18 (row_deletion_bytes b d)
  unfolding row_deletion_bytes
  row_deletion_within d i = pick_ind (Within 18) _ _ _ (λ e. deletion_within d i (eqb-true d.deleted 1 e)) (λ e. none_within 18)

missing_lt : (cs : List (Option CellView)) → missing_of cs < 2 ^ length cs
unfolding missing_of
missing_lt [] = omega arith
missing_lt (none ∷ cs) = rw (pow-succ' 2 (length cs)) (omega (arith, missing_lt cs))
missing_lt (some c ∷ cs) = rw (pow-succ' 2 (length cs)) (omega (arith, missing_lt cs))

missing_within : (cs : List (Option CellView)) → length cs ≤ 63 → Within 9 (missing_bytes (missing_of cs))
unfolding missing_bytes
missing_within cs l =
    let most : 2 ^ length cs ≤ 2 ^ 63 = pow-le-pow_right (lit< tt) l in
    pick_ind (Within 9) _ _ _ (λ e. none_within 9) (λ e. shortest_within (missing_of cs) (omega (arith, missing_lt cs)))

content_within : (b : Bases) (ws : List ℕ) (r : RowView) → length ws ≤ 63 → RowFits b ws r → CellsShort r.cells → Within (54 + 1073741952 * cells_count r.cells) (content_bytes b ws r)
unfolding content_bytes
content_within b ws r l i h =
    let few : length r.cells ≤ 63 = omega (arith, cells_length b ws r.cells i.cells) in
    wider (27 + (18 + (9 + 1073741952 * cells_count r.cells))) _ _ (omega arith)
    (append 27 _ _ _ (liveness_within b r.times i.times)
    (append 18 _ _ _ (row_deletion_within b r.deletion i.deletion)
    (append 9 _ _ _ (missing_within r.cells few) (cells_within b r.times ws r.cells i.cells h))))

sized_within : (n previous : ℕ) (w : List ℕ) → n + 9 < 2 ^ 64 → previous < 2 ^ 64 → Within n w → Within (18 + n) (sized_bytes previous w)
unfolding sized_bytes
sized_within n previous w l k h =
    let x : List ℕ = shortest previous ++ w in
    let g = append 9 n (shortest previous) w (shortest_within previous k) h in
    wider (9 + (9 + n)) _ _ (omega arith) (append 9 _ _ _ (shortest_within (length x) (omega (arith, g.most))) g)

row_flags_lem : (b : Bases) (ws : List ℕ) (r : RowView) (x : ℕ) → x ≤ 1 → RowFits b ws r → Within 1 (flags_of x r ∷ [])
unfolding row_flags
row_flags_lem b ws r x l i =
    let bit : pick {A = ℕ} (eqb (missing_of r.cells) 0) 1 0 ≤ 1 = bit_le _ _ _ 1 (omega arith) (omega arith) in
    one _ (omega (arith, i.times.timed, i.times.expires, i.deletion.deleted))

-- ---- markers
kind_lt : (kind : ℕ) → bad_kind kind ≡ false → kind < 256
unfolding bad_kind pick
kind_lt kind e = go (ltb 7 kind) refl e
  where
    go : (t : Bool) → ltb 7 kind ≡ t → pick t true (pick (eqb kind 3) true (eqb kind 4)) ≡ false → kind < 256
    go true f g = let z : ◌≡◌ {A = ℕ} 0 1 = cc in absurd (omega arith)
    go false f g = omega (arith, ltb-false 7 kind f)

deletions_within : (b : Bases) (kind : ℕ) (d : Deletions) → DeletionsIn b kind d → Within 36 (deletions_bytes b kind d)
unfolding deletions_bytes
deletions_within b kind d i =
    append 18 18 _ _ (deletion_within b d.first i.first i.deleted)
    (pick_ind (Within 18) _ _ _ (λ e. deletion_within b d.second i.second (i.boundary e)) (λ e. none_within 18))

-- ---- entries
module _ (b : Bases) (t : Widths) (few : Bounded t) where
  static_within : (back : ℕ) (r : RowView) → RowFits b t.statics r → CellsShort r.cells → 1073741952 * entry_count (static_view r) < 2 ^ 64
      → Within (1073741952 * entry_count (static_view r)) (static_bytes b t.statics r)
  unfolding static_bytes
  static_within back r i h l =
      wider (1 + (1 + (18 + (54 + 1073741952 * cells_count r.cells)))) _ _ (omega arith)
      (append 1 _ _ _ (row_flags_lem b t.statics r 1 (omega arith) i) (append 1 _ _ _ (one 1 (omega arith))
      (sized_within _ 0 _ (omega arith) (omega arith) (content_within b t.statics r few.statics i h))))

  row_within : (back : ℕ) (vs : List (List ℕ)) (r : RowView) → ValuesFit t.clustering vs → RowFits b t.regulars r → ValuesShort vs → CellsShort r.cells
      → back + 1073741952 * entry_count (row_view vs r) < 2 ^ 64 → Within (1073741952 * entry_count (row_view vs r)) (row_bytes b t.clustering t.regulars back vs r)
  unfolding row_bytes
  row_within back vs r v i g h l =
      let count = values_count t.clustering vs v in
      wider (1 + ((9 + 1073741952 * length vs) + (18 + (54 + 1073741952 * cells_count r.cells)))) _ _ (omega arith)
      (append 1 _ _ _ (row_flags_lem b t.regulars r 0 (omega arith) i)
      (append (9 + 1073741952 * length vs) _ _ _ (prefix_within t.clustering vs (omega (arith, few.clustering)) g)
      (sized_within _ back _ (omega arith) (omega arith) (content_within b t.regulars r few.regulars i h))))

  marker_within : (opened : Deletion) (back : ℕ) (m : MarkerView) → MarkerFits b t.clustering opened m → ValuesShort m.values → back < 2 ^ 64
      → Within (1073741952 * entry_count (marker_view m)) (marker_bytes b t.clustering back m)
  unfolding marker_bytes bound_bytes
  marker_within opened back m i h l =
      let n : ℕ = length m.values in
      wider (1 + (1 + (2 + ((9 + 1073741952 * n) + (18 + 36))))) _ _ (omega arith)
      (append 1 _ _ _ (one 2 (omega arith)) (append 1 _ _ _ (one m.kind (kind_lt m.kind i.kind)) (append 2 _ _ _ (fixed_within n 2)
      (append (9 + 1073741952 * n) _ _ _ (prefix_within (take n t.clustering) m.values (omega (arith, i.count, few.clustering)) h)
      (sized_within 36 back _ (omega arith) l (deletions_within b m.kind m.deletions i.deletions))))))

  entry_within : (first : ℕ) (opened : Deletion) (back : ℕ) (e : EntryView) → EntryFits b t first opened e → EntryShort e → back + 1073741952 * entry_count e < 2 ^ 64
      → Within (1073741952 * entry_count e) (entry_bytes b t back e)
  unfolding entry_bytes
  entry_within first opened back (static_view r) i h l = static_within back r i.1 h (omega arith)
  entry_within first opened back (row_view vs r) i h l = row_within back vs r i.0 i.1 h.0 h.1 l
  entry_within first opened back (marker_view m) i h l = marker_within opened back m i h (omega arith)

  behind_le : (e : EntryView) (back n : ℕ) → back_behind back n e ≤ back + n
  unfolding back_behind
  behind_le (static_view r) back n = omega arith
  behind_le (row_view vs r) back n = omega arith
  behind_le (marker_view m) back n = omega arith

  entries_within : (first : ℕ) (opened : Deletion) (back : ℕ) (es : List EntryView) → EntriesFit b t first opened es → EntriesShort es → back + 1073741952 * entries_count es < 2 ^ 64
      → Within (1073741952 * entries_count es) (entries_bytes b t back es)
  unfolding entries_bytes
  entries_within first opened back [] i h l = none_within _
  entries_within first opened back (e ∷ es) i h l =
      let g = entry_within first opened back e i.0 h.0 (omega arith) in
      let w : List ℕ = entry_bytes b t back e in
      wider (1073741952 * entry_count e + 1073741952 * entries_count es) _ _ (omega arith)
      (append (1073741952 * entry_count e) _ w _ g
      (entries_within 0 (open_view opened e) (back_behind back (length w) e) es i.1 h.1 (omega (arith, behind_le e back (length w), g.most))))

  -- ---- partitions
  head_within : (key : List ℕ) (d : Deletion) → Short key → Within 1073741838 (head_bytes key d)
  unfolding head_bytes deleted_bytes
  head_within key d h =
      wider (2 + (1073741824 + (4 + 8))) _ _ (omega arith) (append 2 _ _ _ (fixed_within (length key) 2) (append 1073741824 _ key _ h (append 4 8 _ _ (fixed_within _ 4) (fixed_within _ 8))))

  partition_within : (p : PartitionView) → PartitionFits b t p → Short p.key → EntriesShort p.entries → 1073741952 * (1 + entries_count p.entries) < 2 ^ 64
      → Within (1073741952 * (1 + entries_count p.entries)) (partition_bytes b t p)
  unfolding partition_bytes
  partition_within p i h g l =
      let w : List ℕ = head_bytes p.key p.deletion in
      let k = head_within p.key p.deletion h in
      wider (1073741838 + (1073741952 * entries_count p.entries + 1)) _ _ (omega arith)
      (append 1073741838 _ w _ k (append (1073741952 * entries_count p.entries) 1 _ _ (entries_within 1 live (length w) p.entries i.entries g (omega (arith, k.most))) (one 1 (omega arith))))

  -- every byte of the writer's form is below 256, and each record adds at most 2^30 + 128 bytes
  pub form_within : (xs : List PartitionView) → AllFit b t xs → AllShort xs → 1073741952 * view_count xs < 2 ^ 64 → Within (1073741952 * view_count xs) (form_of b t xs)
  unfolding form_of
  form_within [] i h l = none_within _
  form_within (p ∷ ps) i h l =
      wider (1073741952 * (1 + entries_count p.entries) + 1073741952 * view_count ps) _ _ (omega arith)
      (append (1073741952 * (1 + entries_count p.entries)) _ _ _ (partition_within p i.0 h.0.0 h.0.1 (omega arith)) (form_within ps i.1 h.1 (omega arith)))
