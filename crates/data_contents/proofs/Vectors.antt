-- Document 01's file read as a whole: its five items, body sizes 08 and 06, the file without its last byte, empty Data. Assumes nothing.
use mathlib.Core.Path.{◌≡◌, refl}
use mathlib.Core.List.{List, [], ◌∷◌}
use Prim.Native.Nat.{ℕ}
use Rattle.common.specs.Choose.{pick, bind}
use Rattle.common.specs.Got.{on}
use Rattle.common.specs.Refusals.{Outcome, taken, refused}
use Rattle.number_fixed.specs.BigEndian.{big_endian, fixed_at}
use Rattle.number_varint.specs.Varints.{leading, low, varint_at}
use Rattle.common.specs.Times.{biased}
use Rattle.common.specs.declared.refusal.Fault.TheVariants.{PastEnd, LeftOver}
use Rattle.common.specs.declared.refusal.Slice.TheVariants.{Data}
use Rattle.common.specs.declared.times.Bases.{Bases}
use Rattle.data_field.specs.Fields.{byte_at, in_at, deletion_at, variable_at, value_at}
use Rattle.data_cell.specs.Cells.{bad_flags, flags_at, last_at, expiring_at, content_at, timed_at, cell_at}
use Rattle.data_clustering.specs.Prefixes.{bad_header, header_at, clustering_at, values_at, skipped, prefix_at, widths_at}
use Rattle.data_clustering.specs.Sizes.{sizes_at}
use Rattle.data_row.specs.Flags.{bad_row_flags, row_flags_at, extended_of, extended_at}
use Rattle.data_turns.specs.Turns.{may_stand}
use Rattle.data_row.specs.Bodies.{expiry_at, liveness_at, row_deletion_at, columns, present_at, body_at}
use Rattle.data_row.specs.Bodies.{content_at as rowContentAt}
use Rattle.data_row.specs.Rows.{rest_at, row_at}
use Rattle.data_partition.specs.Partitions.{key_of, deleted_by, deleted_at, partition_at}
use Rattle.schema_check.specs.declared.records.Counts.{Counts}
use Rattle.data_items.specs.Items.{item, zeroed, mark_of, time_of, partition_flags, cell_flags, partition_item, row_item, value_item, cell_item, end_item}
use Rattle.data_items.specs.declared.Item.{Item}
use Rattle.data_contents.specs.Contents.{widths_of, cells_at, body_cells_at, row_entry_at, entry_at, closed_at, entries_in, entries_at, whole_at, partitions_in, contents_at, listing, contents_of}

abbrev base : Bases
base = record { timestamp = 9224814916854775808; local = 1442880000; ttl = 0 }

-- a key, a clustering column and a regular one of width 4: only the widths are read
abbrev table : List ℕ
table = 0 ∷ 33 ∷ 0 ∷ 255 ∷ 0 ∷ 0 ∷ 0 ∷ 0 ∷ 0 ∷ 0 ∷ 0 ∷ 0 ∷ 0 ∷ 0 ∷ 0 ∷ 0
    ∷ 1 ∷ 17 ∷ 0 ∷ 4 ∷ 0 ∷ 0 ∷ 0 ∷ 0 ∷ 0 ∷ 0 ∷ 0 ∷ 0 ∷ 0 ∷ 0 ∷ 0 ∷ 0
    ∷ 3 ∷ 17 ∷ 0 ∷ 4 ∷ 0 ∷ 0 ∷ 0 ∷ 0 ∷ 0 ∷ 0 ∷ 0 ∷ 0 ∷ 0 ∷ 0 ∷ 0 ∷ 0 ∷ []

abbrev counts : Counts
counts = record { keys = 1; clustering = 1; statics = 0; regulars = 1 }

-- the file with the body size z, before its last bytes
abbrev file : ℕ → List ℕ → List ℕ
file z last = 0 ∷ 1 ∷ 0x6B ∷ 0x7F ∷ 0xFF ∷ 0xFF ∷ 0xFF ∷ 0x80 ∷ 0 ∷ 0 ∷ 0 ∷ 0 ∷ 0 ∷ 0 ∷ 0 ∷ 0x24 ∷ 0 ∷ 0 ∷ 0 ∷ 0 ∷ 7 ∷ z ∷ 0x0F ∷ 5 ∷ 8 ∷ 0 ∷ 0 ∷ 0 ∷ 0x2A ∷ last

abbrev read : List ℕ → Outcome (List Item)
read s = contents_of table counts base s

abbrev five : List Item
five = item 1 0 0 0 zeroed zeroed 0 0 zeroed 0 2 1
    ∷ item 3 1 0 0 9224814916854775813 zeroed 0 0 zeroed 0 15 14
    ∷ item 5 0 0 0 zeroed zeroed 0 0 zeroed 0 17 4
    ∷ item 6 1 0 0 9224814916854775813 zeroed 0 0 zeroed 0 25 4
    ∷ item 7 0 0 0 zeroed zeroed 0 0 zeroed 0 29 1
    ∷ []

pub vectors : (read (file 7 (1 ∷ [])) ≡ taken five)
    × (read (file 8 (1 ∷ [])) ≡ refused LeftOver Data 29)  -- body size 08
    × (read (file 6 (1 ∷ [])) ≡ refused PastEnd Data 25)  -- body size 06
    × (read (file 7 []) ≡ refused PastEnd Data 29)  -- without the last byte
    × (read [] ≡ taken [])
unfolding pick bind varint_at big_endian fixed_at leading low on byte_at in_at deletion_at variable_at value_at bad_flags flags_at last_at expiring_at content_at timed_at cell_at bad_header header_at clustering_at values_at skipped prefix_at widths_at sizes_at bad_row_flags row_flags_at may_stand extended_of extended_at expiry_at liveness_at row_deletion_at columns present_at rowContentAt body_at rest_at row_at key_of biased deleted_by deleted_at partition_at mark_of time_of partition_flags cell_flags partition_item row_item value_item cell_item end_item widths_of cells_at body_cells_at row_entry_at entry_at closed_at entries_in entries_at whole_at partitions_in contents_at listing contents_of
vectors = (refl, refl, refl, refl, refl)
