-- Document 01's Data is the writer's form of what it shows; and the form of Data with every kind of entry and cell. Assumes nothing.
use mathlib.Core.Path.{◌≡◌, refl}
use mathlib.Core.List.{List, [], ◌∷◌}
use mathlib.Core.Option.{Option, none, some}
use Prim.Native.Nat.{ℕ, ◌+◌}
use Rattle.common.specs.Choose.{pick}
use Rattle.number_fixed.specs.BigEndian.{bytes_of}
use Rattle.number_varint.specs.Varints.{form, extra, shortest}
use Rattle.common.specs.Times.{biased}
use Rattle.common.specs.declared.times.Bases.{Bases}
use Rattle.data_field.specs.Fields.{deletion, live}
use Rattle.data_field.specs.declared.fields.Deletion.{Deletion}
use Rattle.data_cell.specs.declared.cells.Times.{Times}
use Rattle.data_row.specs.Bodies.{times}
use Rattle.data_turns.specs.Turns.{is_boundary}
use Rattle.data_contents.specs.Contents.{Widths}
use Rattle.write_form.specs.Views.{CellView, RowView, EntryView, static_view, row_view, marker_view, PartitionView}
use Rattle.write_form.specs.Cells.{same_time, same_expiry, no_value, kind_bits, cell_flags, timestamp_bytes, ttl_bytes, expiry_bytes, length_bytes, field_bytes, value_bytes, last_bytes, tail_bytes, cell_bytes}
use Rattle.write_form.specs.Clusterings.{header_of, header_bytes, clustering_bytes, values_bytes, prefix_bytes}
use Rattle.write_form.specs.Rows.{row_expiry_bytes, liveness_bytes, deletion_bytes, row_deletion_bytes, missing_of, missing_bytes, cells_bytes, row_flags, content_bytes, sized_bytes, static_bytes, row_bytes}
use Rattle.write_form.specs.Markers.{deletions_bytes, bound_bytes, marker_bytes}
use Rattle.write_form.specs.Partitions.{header_local, deleted_bytes, head_bytes}
use Rattle.write_form.specs.Whole.{entry_bytes, back_behind, entries_bytes, partition_bytes, form_of}

abbrev base : Bases
base = record { timestamp = 9224814916854775808; local = 1442880000; ttl = 0 }

abbrev table : Widths
table = record { clustering = 4 ∷ []; statics = []; regulars = 4 ∷ [] }

abbrev shown : List PartitionView
shown = record {
  key = 0x6B ∷ [];
  deletion = live;
  entries = row_view ((0 ∷ 0 ∷ 0 ∷ 7 ∷ []) ∷ []) (record {
    times = times 1 9224814916854775813 0 0 0;
    deletion = live;
    cells = some (record { kind = 0; timestamp = 9224814916854775813; local = 0; ttl = 0; value = 0 ∷ 0 ∷ 0 ∷ 0x2A ∷ [] }) ∷ [];
  }) ∷ [];
} ∷ []

-- ---- every kind of entry and cell, under bases of 0
abbrev zeros : Bases
zeros = record { timestamp = 9223372036854775808; local = 0; ttl = 0 }

abbrev wide : Widths
wide = record { clustering = 4 ∷ 255 ∷ []; statics = 255 ∷ []; regulars = 4 ∷ 255 ∷ [] }

-- a timestamp or mark
abbrev at : ℕ → ℕ
at t = 9223372036854775808 + t

abbrev cell : ℕ → ℕ → ℕ → ℕ → List ℕ → Option CellView
cell kind t local ttl value = some (record { kind = kind; timestamp = at t; local = local; ttl = ttl; value = value })

abbrev row : Times → Deletion → List (Option CellView) → RowView
row times d cells = record { times = times; deletion = d; cells = cells }

abbrev marker : ℕ → List (List ℕ) → Deletion → Deletion → EntryView
marker kind values d e = marker_view (record { kind = kind; values = values; deletions = record { first = d; second = e } })

abbrev kinds : List EntryView
kinds =
    static_view (row (times 0 0 0 0 0) live (cell 0 5 0 0 (0x78 ∷ []) ∷ []))
    -- times of the row's own, an empty clustering value, a missing column
    ∷ row_view ((0 ∷ 0 ∷ 0 ∷ 1 ∷ []) ∷ [] ∷ []) (row (times 1 (at 5) 1 100 60) live (none ∷ cell 1 5 100 60 [] ∷ []))
    -- a deletion, a tombstone, an expiring cell
    ∷ row_view ([] ∷ (0x79 ∷ 0x7A ∷ []) ∷ []) (row (times 0 0 0 0 0) (deletion 1 (at 3) 4) (cell 2 6 8 0 [] ∷ cell 1 9 10 11 (0x71 ∷ []) ∷ []))
    ∷ marker 1 ((0 ∷ 0 ∷ 0 ∷ 2 ∷ []) ∷ []) (deletion 1 (at 5) 6) live
    ∷ marker 2 [] (deletion 1 (at 5) 6) (deletion 1 (at 7) 8)
    ∷ marker 6 ([] ∷ [] ∷ []) (deletion 1 (at 7) 8) live
    ∷ []

abbrev two : List PartitionView
two = record { key = 0x61 ∷ 0x62 ∷ []; deletion = deletion 1 (at 7) 9; entries = kinds } ∷ record { key = []; deletion = live; entries = [] } ∷ []

abbrev two_bytes : List ℕ
two_bytes =
    0 ∷ 2 ∷ 0x61 ∷ 0x62 ∷ 0 ∷ 0 ∷ 0 ∷ 9 ∷ 0 ∷ 0 ∷ 0 ∷ 0 ∷ 0 ∷ 0 ∷ 0 ∷ 7
    ∷ 0xA0 ∷ 1 ∷ 5 ∷ 0 ∷ 0 ∷ 5 ∷ 1 ∷ 0x78
    ∷ 0x0C ∷ 4 ∷ 0 ∷ 0 ∷ 0 ∷ 1 ∷ 6 ∷ 0x18 ∷ 5 ∷ 0x3C ∷ 0x64 ∷ 1 ∷ 0x1E
    ∷ 0x30 ∷ 1 ∷ 2 ∷ 0x79 ∷ 0x7A ∷ 0x0C ∷ 0x0D ∷ 3 ∷ 4 ∷ 5 ∷ 6 ∷ 8 ∷ 2 ∷ 9 ∷ 0x0A ∷ 0x0B ∷ 1 ∷ 0x71
    ∷ 2 ∷ 1 ∷ 0 ∷ 1 ∷ 0 ∷ 0 ∷ 0 ∷ 0 ∷ 2 ∷ 3 ∷ 0x12 ∷ 5 ∷ 6
    ∷ 2 ∷ 2 ∷ 0 ∷ 0 ∷ 5 ∷ 0x0D ∷ 5 ∷ 6 ∷ 7 ∷ 8
    ∷ 2 ∷ 6 ∷ 0 ∷ 2 ∷ 5 ∷ 3 ∷ 0x0A ∷ 7 ∷ 8
    ∷ 1
    ∷ 0 ∷ 0 ∷ 0x7F ∷ 0xFF ∷ 0xFF ∷ 0xFF ∷ 0x80 ∷ 0 ∷ 0 ∷ 0 ∷ 0 ∷ 0 ∷ 0 ∷ 0 ∷ 1 ∷ []

pub vectors : (form_of base table shown ≡ 0 ∷ 1 ∷ 0x6B ∷ 0x7F ∷ 0xFF ∷ 0xFF ∷ 0xFF ∷ 0x80 ∷ 0 ∷ 0 ∷ 0 ∷ 0 ∷ 0 ∷ 0 ∷ 0 ∷ 0x24 ∷ 0 ∷ 0 ∷ 0 ∷ 0 ∷ 7 ∷ 7 ∷ 0x0F ∷ 5 ∷ 8 ∷ 0 ∷ 0 ∷ 0 ∷ 0x2A ∷ 1 ∷ [])
    × (form_of base table [] ≡ [])
    × (form_of zeros wide two ≡ two_bytes)
unfolding pick form extra shortest bytes_of biased same_time same_expiry no_value kind_bits cell_flags timestamp_bytes ttl_bytes expiry_bytes length_bytes field_bytes value_bytes last_bytes tail_bytes cell_bytes header_of header_bytes clustering_bytes values_bytes prefix_bytes row_expiry_bytes liveness_bytes deletion_bytes row_deletion_bytes missing_of missing_bytes cells_bytes row_flags content_bytes sized_bytes static_bytes row_bytes is_boundary deletions_bytes bound_bytes marker_bytes header_local deleted_bytes head_bytes entry_bytes back_behind entries_bytes partition_bytes form_of
vectors = (refl, refl, refl)
