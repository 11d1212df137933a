-- "A partition: .. Then an optional static row, rows and markers, and the byte 01": what Data holds, read as a whole, and the items that
-- list it. Assumes nothing.
use Rattle.std.specs.Prelude.{ℕ, zero, suc, ◌+◌, ◌-◌, ◌*◌, ◌/◌, ◌%◌, List, [], ◌∷◌, ◌++◌, eqb, length, take}
use Rattle.std.proofs.Math.Option.{Option, none, some}
use Rattle.common.specs.Choose.{pick}
use Rattle.common.specs.Got.{Got, got, bad, on, Reader, ◌>>=◌, ret, when, filled}
use Rattle.common.specs.Refusals.{Outcome, taken, refused}
use Rattle.common.specs.declared.refusal.Fault.TheVariants.{PastEnd, OutOfTurn}
use Rattle.common.specs.declared.refusal.Slice.TheVariants.{Data}
use Rattle.common.specs.declared.times.Bases.{Bases}
use Rattle.data_field.specs.Fields.{live, byte_at}
use Rattle.data_cell.specs.Cells.{cell_at}
use Rattle.data_field.specs.declared.fields.Deletion.{Deletion}
use Rattle.data_field.specs.declared.fields.Span.{Span}
use Rattle.data_cell.specs.declared.cells.Times.{Times}
use Rattle.data_cell.specs.declared.cells.Cell.{Cell}
use Rattle.data_clustering.specs.Prefixes.{values_at, widths_at}
use Rattle.data_row.specs.Rows.{row_at}
use Rattle.data_row.specs.declared.bodies.Body.{Body}
use Rattle.data_row.specs.declared.rows.Row.{Row}
use Rattle.data_marker.specs.Markers.{marker_at, open_after}
use Rattle.data_marker.specs.declared.markers.Marker.{Marker}
use Rattle.data_partition.specs.Partitions.{partition_at}
use Rattle.data_partition.specs.declared.partitions.Partition.{Partition}
use Rattle.schema_check.specs.declared.records.Counts.{Counts}
use Rattle.data_items.specs.Items.{partition_item, row_item, marker_item, value_item, cell_item, end_item}
use Rattle.data_items.specs.declared.Item.{Item}

-- ---- what is read
-- the widths of a table's columns, by role
pub record Widths : Type 0 where
  pub clustering : List ℕ
  pub statics : List ℕ
  pub regulars : List ℕ

-- those of the schema c, whose columns' counts are k
unfoldable pub widths_of : List ℕ → Counts → Widths
widths_of c k = record {
  clustering = widths_at c 16 k.clustering;
  statics = widths_at c (16 + 16 * k.clustering) k.statics;
  regulars = widths_at c (16 + 16 * (k.clustering + k.statics)) k.regulars;
}

-- a static row, a row or a marker (which ends at a place) with its clustering values and its columns' cells, none where one is missing
pub data Entry : Type 0 where
  static_entry : Row → List (Option Cell) → Entry
  row_entry : Row → List Span → List (Option Cell) → Entry
  marker_entry : Marker → ℕ → List Span → Entry

-- a partition whose end byte stands at end
pub record Contents : Type 0 where
  pub header : Partition
  pub entries : List Entry
  pub end : ℕ

-- ---- rows and markers
-- "cells in column order": of the columns whose widths are ws, those whose bit is in present, the first column's the lowest
unfoldable pub cells_at : Bases → Times → List ℕ → ℕ → Reader (List (Option Cell))
cells_at b row [] present = ret []
cells_at b row (w ∷ ws) present =
    when (eqb (present % 2) 1)
    (cell_at b row w >>= (λ c. cells_at b row ws (present / 2) >>= (λ cs. ret (some c ∷ cs))))
    (cells_at b row ws (present / 2) >>= (λ cs. ret (none ∷ cs)))

-- the cells of a row's body, which they fill, from at on
unfoldable pub body_cells_at : Bases → List ℕ → Body → List ℕ → ℕ → Got (List (Option Cell))
body_cells_at b ws y s at = (cells_at b y.times ws y.present >>= (λ cs. filled cs)) s at y.stop

-- a row: its clustering values are read from where they stand; a static one has none, and the static columns
unfoldable pub row_entry_at : Widths → Bases → ℕ → Reader Entry
row_entry_at t b first s at end =
    on (row_at b t.clustering (length t.statics) (length t.regulars) first s at end) (λ r n.
    pick (eqb r.extended 1)
    (on (body_cells_at b t.statics r.body s n) (λ cs m.
    got (static_entry r cs) m))
    (on (values_at t.clustering r.prefix.header s r.prefix.values end) (λ vs p.
    on (body_cells_at b t.regulars r.body s n) (λ cs m.
    got (row_entry r vs cs) m))))

-- a marker, where the deletion of the open range is `opened`; its values are of the first columns
unfoldable pub marker_entry_at : Widths → Bases → Deletion → Reader Entry
marker_entry_at t b opened s at end =
    on (marker_at b t.clustering opened s at end) (λ m n.
    on (values_at (take m.count t.clustering) m.prefix.header s m.prefix.values end) (λ vs p.
    got (marker_entry m n vs) n))

-- what begins with the byte f: first is 1 right behind the partition's header
unfoldable pub entry_at : Widths → Bases → ℕ → Deletion → ℕ → Reader Entry
entry_at t b first opened f = when (eqb f 2) (marker_entry_at t b opened) (row_entry_at t b first)

-- the deletion of the range that is open behind an entry
abbrev pub open_behind : Deletion → Entry → Deletion
open_behind opened (static_entry r cs) = opened
open_behind opened (row_entry r vs cs) = opened
open_behind opened (marker_entry m n vs) = open_after m.kind m.deletions

-- ---- partitions
-- "the partition ends closed": the end byte at at, before which nothing is open
unfoldable pub closed_at : Deletion → ℕ → Got (List Entry)
closed_at opened at = pick (eqb opened.deleted 0) (got [] at) (bad OutOfTurn at)

-- the entries up to the end byte, at most j of them
unfoldable pub entries_in : ℕ → Widths → Bases → ℕ → Deletion → Reader (List Entry)
entries_in zero t b first opened s at end = bad PastEnd at
entries_in (suc j) t b first opened s at end =
    on (byte_at s at end) (λ f n.
    pick (eqb f 1) (closed_at opened at)
    (on (entry_at t b first opened f s at end) (λ e m.
    on (entries_in j t b 0 (open_behind opened e) s m end) (λ es p.
    got (e ∷ es) p))))

-- the entries up to the end byte: each has a byte or more, so that they are not more than the bytes
unfoldable pub entries_at : Widths → Bases → ℕ → Deletion → Reader (List Entry)
entries_at t b first opened s at end = entries_in (end - at) t b first opened s at end

-- a partition, whole
unfoldable pub whole_at : Widths → Bases → Reader Contents
whole_at t b s at end =
    on (partition_at s at end) (λ h n.
    on (entries_at t b 1 live s n end) (λ es p.
    got (record { header = h; entries = es; end = p }) (p + 1)))

-- partitions up to the end, at most j of them
unfoldable pub partitions_in : ℕ → Widths → Bases → Reader (List Contents)
partitions_in zero t b s at end = got [] at
partitions_in (suc j) t b s at end =
    pick (eqb at end) (got [] at)
    (on (whole_at t b s at end) (λ p n.
    on (partitions_in j t b s n end) (λ ps m.
    got (p ∷ ps) m)))

-- all that Data holds
unfoldable pub contents_at : Widths → Bases → Reader (List Contents)
contents_at t b s at end = partitions_in (end - at) t b s at end

-- ---- what is listed, in the listing's order
-- clustering values, from column i on
abbrev pub values_listed : ℕ → List Span → List Item
values_listed i [] = []
values_listed i (v ∷ vs) = value_item i v ∷ values_listed (i + 1) vs

-- cells, from column i on: missing ones count
abbrev pub cells_listed : ℕ → List (Option Cell) → List Item
cells_listed i [] = []
cells_listed i (none ∷ cs) = cells_listed (i + 1) cs
cells_listed i (some c ∷ cs) = cell_item i c ∷ cells_listed (i + 1) cs

abbrev pub entry_listed : Entry → List Item
entry_listed (static_entry r cs) = row_item 2 r ∷ cells_listed 0 cs
entry_listed (row_entry r vs cs) = row_item 3 r ∷ (values_listed 0 vs ++ cells_listed 0 cs)
entry_listed (marker_entry m n vs) = marker_item m n ∷ values_listed 0 vs

-- entries and the end byte at end
abbrev pub entries_listed : List Entry → ℕ → List Item
entries_listed [] end = end_item end ∷ []
entries_listed (e ∷ es) end = entry_listed e ++ entries_listed es end

abbrev pub partition_listed : Contents → List Item
partition_listed p = partition_item p.header ∷ entries_listed p.entries p.end

abbrev pub listed : List Contents → List Item
listed [] = []
listed (p ∷ ps) = partition_listed p ++ listed ps

-- the items of what was read, or the refusal in Data
unfoldable pub listing : Got (List Contents) → Outcome (List Item)
listing (got ps n) = taken (listed ps)
listing (bad f p) = refused f Data p

-- the items of the Data s, in a table of the schema c, whose columns' counts are k, and the bases b
unfoldable pub contents_of : List ℕ → Counts → Bases → List ℕ → Outcome (List Item)
contents_of c k b s = listing (contents_at (widths_of c k) b s 0 (length s))
