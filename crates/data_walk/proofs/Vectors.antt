-- Document 01's file step by step: its five records, body sizes 08 and 06, the file without its last byte, empty Data; states that are
-- refused. Assumes nothing.
use mathlib.Core.Path.{◌≡◌, refl}
use mathlib.Core.List.{List, [], ◌∷◌}
use mathlib.Core.Option.{some}
use Prim.Native.Nat.{ℕ}
use lib.Count.{count_trailing_zeros}
use Rattle.common.specs.Choose.{pick, bind}
use Rattle.common.specs.Got.{on, within}
use Rattle.common.specs.Refusals.{taken, refused}
use Rattle.number_fixed.specs.BigEndian.{big_endian, fixed_at}
use Rattle.number_varint.specs.Varints.{leading, low, varint_at}
use Rattle.common.specs.declared.refusal.Fault.TheVariants.{PastEnd, LeftOver, BadRecord, OutOfRange}
use Rattle.common.specs.declared.refusal.Slice.TheVariants.{Data, Schema, Bases as bases-slice}
use Rattle.common.specs.declared.times.Bases.{Bases}
use Rattle.data_field.specs.Fields.{live, byte_at, in_at, deletion_at, variable_at, value_at}
use Rattle.data_cell.specs.Cells.{bad_flags, flags_at, last_at, expiring_at, content_at, timed_at, cell_at}
use Rattle.data_cell.specs.declared.cells.Times.{Times}
use Rattle.data_clustering.specs.Prefixes.{bad_header, header_at, clustering_at, values_at, skipped, prefix_at, widths_at}
use Rattle.data_clustering.specs.Sizes.{sizes_at}
use Rattle.data_row.specs.Flags.{bad_row_flags, row_flags_at, extended_of, extended_at}
use Rattle.data_turns.specs.Turns.{may_stand}
use Rattle.data_row.specs.Bodies.{times, expiry_at, liveness_at, row_deletion_at, columns, present_at, body_at}
use Rattle.data_row.specs.Bodies.{content_at as rowContentAt}
use Rattle.data_row.specs.Rows.{rest_at, row_at}
use Rattle.common.specs.Times.{biased}
use Rattle.data_partition.specs.Partitions.{key_of, deleted_by, deleted_at, partition_at}
use Rattle.schema_check.specs.Records.{schema_at, schema_of}
use Rattle.schema_check.specs.declared.records.Counts.{Counts}
use Rattle.data_items.specs.Items.{item, zeroed, mark_of, time_of, partition_flags, cell_flags, partition_item, row_item, value_item, cell_item, end_item}
use Rattle.data_walk.specs.Cursors.{hand, cursor, none, outside, bad_column, bad_values, bad_cells, at_items, at_cells, behind_value, behind_cell, behind_row}
use Rattle.data_walk.specs.Steps.{Answer, bad_state, done, partition_step, end_step, row_handed, row_step, item_step, value_step, cell_step, cells_step, handed, partition_answer, item_answer, values_answer, cells_answer, statics_answer, step_in, step_at}
use Rattle.call_check.specs.Tables.{bad_bases, after, table_at}
use Rattle.data_walk.specs.declared.cursors.Phase.TheVariants.{Partition, First, Values, Statics, Cells}
use Rattle.data_walk.specs.declared.cursors.Cursor.{Cursor}

abbrev base : Bases
base = record { timestamp = 9224814916854775808; local = 1442880000; ttl = 0 }

-- a key, a clustering column and a regular one of width 4: only the widths are read
abbrev table : List ℕ
table = 0 ∷ 33 ∷ 0 ∷ 255 ∷ 0 ∷ 0 ∷ 0 ∷ 0 ∷ 0 ∷ 0 ∷ 0 ∷ 0 ∷ 0 ∷ 0 ∷ 0 ∷ 0
    ∷ 1 ∷ 17 ∷ 0 ∷ 4 ∷ 0 ∷ 0 ∷ 0 ∷ 0 ∷ 0 ∷ 0 ∷ 0 ∷ 0 ∷ 0 ∷ 0 ∷ 0 ∷ 0
    ∷ 3 ∷ 17 ∷ 0 ∷ 4 ∷ 0 ∷ 0 ∷ 0 ∷ 0 ∷ 0 ∷ 0 ∷ 0 ∷ 0 ∷ 0 ∷ 0 ∷ 0 ∷ 0 ∷ []

abbrev counts : Counts
counts = record { keys = 1; clustering = 1; statics = 0; regulars = 1 }

-- the file with the body size z, before its last bytes
abbrev file : ℕ → List ℕ → List ℕ
file z last = 0 ∷ 1 ∷ 0x6B ∷ 0x7F ∷ 0xFF ∷ 0xFF ∷ 0xFF ∷ 0x80 ∷ 0 ∷ 0 ∷ 0 ∷ 0 ∷ 0 ∷ 0 ∷ 0 ∷ 0x24 ∷ 0 ∷ 0 ∷ 0 ∷ 0 ∷ 7 ∷ z ∷ 0x0F ∷ 5 ∷ 8 ∷ 0 ∷ 0 ∷ 0 ∷ 0x2A ∷ last

abbrev row : Times
row = times 1 9224814916854775813 0 0 0

abbrev nothing : ℕ → Cursor
nothing at = cursor at Partition live (hand 0 0 0 0 0 0 (times 0 0 0 0 0))

abbrev first : Cursor
first = cursor 15 First live (hand 0 0 0 0 0 0 (times 0 0 0 0 0))

abbrev value : ℕ → Cursor
value stop = cursor 17 Values live (hand 0 1 0 24 stop 1 row)

abbrev cell : ℕ → ℕ → ℕ → Cursor
cell at column stop = cursor at Cells live (hand column 1 0 24 stop 1 row)

abbrev step : List ℕ → Cursor → Answer
step s x = step_in x.phase table counts base s x

pub vectors : (step (file 7 (1 ∷ [])) (nothing 0) ≡ taken (some (item 1 0 0 0 zeroed zeroed 0 0 zeroed 0 2 1, first)))
    × (step (file 7 (1 ∷ [])) first ≡ taken (some (item 3 1 0 0 9224814916854775813 zeroed 0 0 zeroed 0 15 14, value 29)))
    × (step (file 7 (1 ∷ [])) (value 29) ≡ taken (some (item 5 0 0 0 zeroed zeroed 0 0 zeroed 0 17 4, cell 24 0 29)))
    × (step (file 7 (1 ∷ [])) (cell 24 0 29) ≡ taken (some (item 6 1 0 0 9224814916854775813 zeroed 0 0 zeroed 0 25 4, cell 29 1 29)))
    × (step (file 7 (1 ∷ [])) (cell 29 1 29) ≡ taken (some (item 7 0 0 0 zeroed zeroed 0 0 zeroed 0 29 1, nothing 30)))
    × (step (file 7 (1 ∷ [])) (nothing 30) ≡ done)
    × (step (file 8 (1 ∷ [])) (cell 29 1 30) ≡ refused LeftOver Data 29)  -- body size 08
    × (step (file 6 (1 ∷ [])) (cell 24 0 28) ≡ refused PastEnd Data 25)  -- body size 06
    × (step (file 7 []) (cell 29 1 29) ≡ refused PastEnd Data 29)  -- without the last byte
    × (step [] (nothing 0) ≡ done)
    × (step [] (nothing 1) ≡ bad_state)  -- past the end
    × (step (file 7 (1 ∷ [])) (cell 29 2 29) ≡ bad_state)  -- a column that the schema lacks
    × (step (file 7 (1 ∷ [])) (cell 30 1 29) ≡ bad_state)  -- past the body's end
    × (step (file 7 (1 ∷ [])) (cursor 24 Statics live (hand 0 0 0 24 29 0 row)) ≡ bad_state)  -- no static columns
    × (step_at [] base (nothing 0) [] ≡ refused BadRecord Schema 0)
    × (step_at [] (record { timestamp = 0; local = 2147483648; ttl = 0 }) (nothing 0) [] ≡ refused OutOfRange bases-slice 0)
unfolding count_trailing_zeros pick bind within varint_at big_endian fixed_at leading low on byte_at in_at deletion_at variable_at value_at bad_flags flags_at last_at expiring_at content_at timed_at cell_at bad_header header_at clustering_at values_at skipped prefix_at widths_at sizes_at bad_row_flags row_flags_at may_stand extended_of extended_at expiry_at liveness_at row_deletion_at columns present_at rowContentAt body_at rest_at row_at key_of biased deleted_by deleted_at partition_at schema_at schema_of mark_of time_of partition_flags cell_flags partition_item row_item value_item cell_item end_item none outside bad_column bad_values bad_cells at_items at_cells behind_value behind_cell behind_row partition_step end_step row_handed row_step item_step value_step cell_step cells_step handed partition_answer item_answer values_answer cells_answer statics_answer step_in bad_bases after table_at step_at
vectors = (refl, refl, refl, refl, refl, refl, refl, refl, refl, refl, refl, refl, refl, refl, refl, refl)
