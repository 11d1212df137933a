-- Document 01's five records give its Data; and the examples of decisions W1 to W12. Assumes nothing.
use mathlib.Core.Path.{◌≡◌, refl}
use mathlib.Core.List.{List, [], ◌∷◌, ◌++◌}
use Prim.Native.Nat.{ℕ}
use lib.ListN.{take}
use Rattle.common.specs.Choose.{pick, bind}
use Rattle.common.specs.Got.{on, within}
use Rattle.common.specs.Refusals.{Outcome, taken, refused}
use Rattle.number_fixed.specs.BigEndian.{big_endian, bytes_of}
use Rattle.common.specs.Store.{part, shown}
use Rattle.common.specs.Times.{biased}
use Rattle.number_varint.specs.Varints.{form, extra, shortest}
use Rattle.common.specs.declared.refusal.Fault.TheVariants.{OverLimit, OutOfRange, BadRecord, NoRoom}
use Rattle.common.specs.declared.refusal.Slice.TheVariants.{Schema, Records, Output}
use Rattle.common.specs.declared.times.Bases.{Bases}
use Rattle.type_table.specs.Table.{table as types, nth, is_line}
use Rattle.type_table.specs.Table.{line_of as typeLine}
use Rattle.schema_check.specs.Records.{most_of, role_at, line_at, mark_at, width_at, name_at, name_len_at, zeros_at, is_line_of, is_name_of, is_kind_of, given, count_of, is_passed, is_first, in_turn, with_one, records_at, schema_at, schema_of}
use Rattle.schema_check.specs.Records.{record_at as schemaRecordAt}
use Rattle.data_clustering.specs.Prefixes.{widths_at}
use Rattle.data_turns.specs.Turns.{may_stand}
use Rattle.data_turns.specs.Turns.{bad_kind, is_start, is_boundary, out_of_turn}
use Rattle.data_marker.specs.Markers.{open_after}
use Rattle.data_turns.specs.Turns.{same_deletion}
use Rattle.data_items.specs.Items.{item, zeroed}
use Rattle.call_check.specs.Tables.{bad_bases, after}
use Rattle.data_items.specs.declared.Item.{Item}
use Rattle.data_contents.specs.Contents.{Widths, widths_of}
use Rattle.list_call.specs.Records.{signed_bytes, kind_bytes, column_bytes, head_bytes, local_bytes, time_bytes, second_bytes, place_bytes, tail_bytes, record_of, records_of}
use Rattle.write_form.specs.Cells.{same_time, same_expiry, no_value, kind_bits, cell_flags, timestamp_bytes, ttl_bytes, expiry_bytes, length_bytes, field_bytes, value_bytes, last_bytes, cell_bytes}
use Rattle.write_form.specs.Cells.{tail_bytes as cellTailBytes}
use Rattle.write_form.specs.Clusterings.{header_of, header_bytes, clustering_bytes, values_bytes, prefix_bytes}
use Rattle.write_form.specs.Rows.{row_expiry_bytes, liveness_bytes, deletion_bytes, row_deletion_bytes, missing_of, missing_bytes, cells_bytes, row_flags, content_bytes, sized_bytes, static_bytes, row_bytes}
use Rattle.write_form.specs.Markers.{deletions_bytes, bound_bytes, marker_bytes}
use Rattle.write_form.specs.Partitions.{header_local, deleted_bytes}
use Rattle.write_form.specs.Partitions.{head_bytes as partitionHeadBytes}
use Rattle.write_form.specs.Whole.{entry_bytes, back_behind, entries_bytes, partition_bytes, form_of}
use Rattle.write_accept.specs.Fields.{signed_at, item_of, stray_bytes, has_time, has_expiry, has_local, has_mark, has_second, has_column, stray, stray_first, stray_last, stray_numbers}
use Rattle.write_accept.specs.Records.{outside, last_ranges_at, ranges_at, record_at, kind_at}
use Rattle.write_accept.specs.Tests.{unlike, bad_place, bad_nowhere, bad_key, bad_width, bad_value, bad_partition_flags, bad_row_flags, bad_value_flags, bad_cell_flags, bad_partition, bad_row, bad_static, bad_first, bad_marker, bad_clustering, bad_cell_place, bad_cell, bad_end}
use Rattle.write_accept.specs.Entries.{deletion_of, second_of, times_of, cell_of, taken_values, taken_prefix, is_cell, taken_cells, taken_static, taken_row, taken_marker, taken_entry, taken_end, taken_entries_in, taken_entries, taken_partition, taken_in, taken_at}
use Rattle.write_accept.specs.Writes.{desk_at, written_as, fitting, write_of}

-- ---- document 01's file
abbrev base : Bases
base = record { timestamp = 9224814916854775808; local = 1442880000; ttl = 0 }

abbrev schema : List ℕ
schema = 0 ∷ 33 ∷ 0 ∷ 255 ∷ 0 ∷ 0 ∷ 0 ∷ 0 ∷ 0 ∷ 0 ∷ 0 ∷ 0 ∷ 0 ∷ 0 ∷ 0 ∷ 0
    ∷ 1 ∷ 17 ∷ 0 ∷ 4 ∷ 0 ∷ 0 ∷ 0 ∷ 0 ∷ 0 ∷ 0 ∷ 0 ∷ 0 ∷ 0 ∷ 0 ∷ 0 ∷ 0
    ∷ 3 ∷ 17 ∷ 0 ∷ 4 ∷ 0 ∷ 0 ∷ 0 ∷ 99 ∷ 0 ∷ 0 ∷ 0 ∷ 1 ∷ 0 ∷ 0 ∷ 0 ∷ 0 ∷ []

abbrev file : List ℕ
file = 0 ∷ 1 ∷ 0x6B ∷ 0x7F ∷ 0xFF ∷ 0xFF ∷ 0xFF ∷ 0x80 ∷ 0 ∷ 0 ∷ 0 ∷ 0 ∷ 0 ∷ 0 ∷ 0 ∷ 0x24 ∷ 0 ∷ 0 ∷ 0 ∷ 0 ∷ 7 ∷ 7 ∷ 0x0F ∷ 5 ∷ 8 ∷ 0 ∷ 0 ∷ 0 ∷ 0x2A ∷ 1 ∷ []

-- the row's place is (x, y), which the writer ignores
abbrev five : ℕ → ℕ → List Item
five x y = item 1 0 0 0 zeroed zeroed 0 0 zeroed 0 2 1
    ∷ item 3 1 0 0 9224814916854775813 zeroed 0 0 zeroed 0 x y
    ∷ item 5 0 0 0 zeroed zeroed 0 0 zeroed 0 17 4
    ∷ item 6 1 0 0 9224814916854775813 zeroed 0 0 zeroed 0 25 4
    ∷ item 7 0 0 0 zeroed zeroed 0 0 zeroed 0 29 1
    ∷ []

abbrev write : List Item → ℕ → Outcome (List ℕ)
write l room = write_of schema base (records_of l) file room

-- ---- a table of a clustering, a static and two regular columns, the last of variable width; bases 0, 0, 0
abbrev columns : Widths
columns = record { clustering = 4 ∷ []; statics = 4 ∷ []; regulars = 4 ∷ 255 ∷ [] }

abbrev zero : Bases
zero = record { timestamp = zeroed; local = 0; ttl = 0 }

abbrev lent : List ℕ
lent = 0x6B ∷ 0 ∷ 0 ∷ 0 ∷ []

abbrev answer : List ℕ → Outcome (List ℕ)
answer s = written_as columns zero s lent

abbrev of : List Item → Outcome (List ℕ)
of l = answer (records_of l)

abbrev key : Item
key = item 1 0 0 0 zeroed zeroed 0 0 zeroed 0 0 1

abbrev rows : Item
rows = item 3 0 0 0 zeroed zeroed 0 0 zeroed 0 0 0

abbrev statics : Item
statics = item 2 0 0 0 zeroed zeroed 0 0 zeroed 0 0 0

-- an empty clustering value and cell
abbrev value : ℕ → Item
value column = item 5 8 column 0 zeroed zeroed 0 0 zeroed 0 0 0

abbrev cells : ℕ → Item
cells column = item 6 9 column 0 zeroed zeroed 0 0 zeroed 0 0 0

-- a marker with one deletion: its mark, plus 2^63, and local time
abbrev bound : ℕ → ℕ → ℕ → Item
bound kind mark local = item 4 4 kind 0 zeroed mark local 0 zeroed 0 0 0

abbrev last : Item
last = item 7 0 0 0 zeroed zeroed 0 0 zeroed 0 0 0

abbrev ten : ℕ → Outcome (List ℕ)
ten place = refused BadRecord Records place

abbrev five_at : ℕ → Outcome (List ℕ)
five_at place = refused OutOfRange Records place

abbrev head : List ℕ
head = 0 ∷ 1 ∷ 0x6B ∷ 0x7F ∷ 0xFF ∷ 0xFF ∷ 0xFF ∷ 0x80 ∷ 0 ∷ 0 ∷ 0 ∷ 0 ∷ 0 ∷ 0 ∷ 0 ∷ []

pub vectors : (write (five 15 14) 30 ≡ taken file)
    × (write (five 15 14) 29 ≡ refused NoRoom Output 30)
    × (write (five 7 9999) 30 ≡ taken file)  -- W8
    × (write_of [] base [] [] 0 ≡ refused BadRecord Schema 0)
    × (write_of schema base [] [] 1073741825 ≡ refused OverLimit Output 0)
    × (answer [] ≡ taken [])  -- W4
    × (of (key ∷ last ∷ []) ≡ taken (head ++ (1 ∷ [])))
    × (of (key ∷ statics ∷ cells 0 ∷ last ∷ []) ≡ taken (head ++ (0xA0 ∷ 1 ∷ 3 ∷ 0 ∷ 4 ∷ 0 ∷ 1 ∷ [])))
    × (of (key ∷ rows ∷ value 0 ∷ cells 1 ∷ last ∷ []) ≡ taken (head ++ (0 ∷ 1 ∷ 4 ∷ 15 ∷ 1 ∷ 4 ∷ 0 ∷ 1 ∷ [])))
    × (of (key ∷ bound 1 9223372036854775813 6 ∷ bound 6 9223372036854775813 6 ∷ value 0 ∷ last ∷ [])
    ≡ taken (head ++ (2 ∷ 1 ∷ 0 ∷ 0 ∷ 3 ∷ 15 ∷ 5 ∷ 6 ∷ 2 ∷ 6 ∷ 0 ∷ 1 ∷ 1 ∷ 3 ∷ 8 ∷ 5 ∷ 6 ∷ 1 ∷ [])))
    × (of (key ∷ item 3 3 0 0 0 zeroed 0 0 zeroed 0 0 0 ∷ []) ≡ five_at 68)  -- W1: TTL 0 and a bad timestamp
    × (answer (take 74 (records_of (key ∷ last ∷ []))) ≡ ten 74)  -- W3
    × (answer (1 ∷ []) ≡ ten 1)
    × (answer (take 138 (records_of (key ∷ last ∷ last ∷ []))) ≡ ten 138)
    × (of (key ∷ rows ∷ last ∷ []) ≡ ten 128)  -- W5
    × (of (key ∷ bound 1 9223372036854775813 6 ∷ last ∷ []) ≡ ten 128)
    × (of (item 1 1 0 0 zeroed zeroed 0 0 zeroed 0 0 1 ∷ []) ≡ ten 0)  -- W6: flags, a number that is not used, byte 3
    × (of (item 1 0 0 0 zeroed 0 0 0 zeroed 0 0 1 ∷ []) ≡ ten 0)
    × (answer (1 ∷ 0 ∷ 0 ∷ 1 ∷ take 60 (records_of (key ∷ []))) ≡ ten 0)
    × (of (key ∷ rows ∷ value 0 ∷ cells 1 ∷ cells 0 ∷ last ∷ []) ≡ ten 256)  -- W7: columns rise, a static row is first, values in order
    × (of (key ∷ rows ∷ value 0 ∷ statics ∷ []) ≡ ten 192)
    × (of (key ∷ rows ∷ value 1 ∷ []) ≡ ten 128)
    × (of (item 1 0 0 0 zeroed zeroed 0 0 zeroed 0 4 1 ∷ []) ≡ ten 0)  -- W9: outside the lent bytes, a shown key of none, a place of an empty one, a width
    × (of (item 1 0 0 0 zeroed zeroed 0 0 zeroed 0 0 0 ∷ []) ≡ ten 0)
    × (of (item 1 8 0 0 zeroed zeroed 0 0 zeroed 0 0 1 ∷ []) ≡ ten 0)
    × (of (key ∷ rows ∷ item 5 0 0 0 zeroed zeroed 0 0 zeroed 0 0 3 ∷ []) ≡ ten 128)
    × (of (item 1 4 0 0 zeroed 0 2147483647 0 zeroed 0 0 1 ∷ []) ≡ five_at 16)  -- W10
    × (written_as columns (record { timestamp = 9223372036854775818; local = 10; ttl = 0 }) (records_of (item 1 12 0 0 zeroed 9223372036854775809 1 0 zeroed 0 0 0 ∷ last ∷ [])) []
    ≡ taken (0 ∷ 0 ∷ 0 ∷ 0 ∷ 0 ∷ 1 ∷ 0 ∷ 0 ∷ 0 ∷ 0 ∷ 0 ∷ 0 ∷ 0 ∷ 1 ∷ 1 ∷ []))
    × (of (key ∷ bound 1 9223372036854775813 6 ∷ bound 6 0 6 ∷ []) ≡ ten 128)  -- W11
    × (of (key ∷ bound 1 9223372036854775813 4294967295 ∷ []) ≡ five_at 88)  -- W12: above its range, below its base
    × (of (key ∷ bound 1 9223372036854775807 6 ∷ []) ≡ five_at 80)
unfolding pick bind on within big_endian bytes_of part shown biased form extra shortest types nth is_line typeLine most_of role_at line_at mark_at width_at name_at name_len_at zeros_at is_line_of is_name_of is_kind_of given count_of is_passed is_first in_turn with_one records_at schema_at schema_of schemaRecordAt widths_at may_stand bad_kind is_start is_boundary out_of_turn same_deletion open_after bad_bases after widths_of signed_bytes kind_bytes column_bytes head_bytes local_bytes time_bytes second_bytes place_bytes tail_bytes record_of records_of same_time same_expiry no_value kind_bits cell_flags timestamp_bytes ttl_bytes expiry_bytes length_bytes field_bytes value_bytes last_bytes cell_bytes cellTailBytes header_of header_bytes clustering_bytes values_bytes prefix_bytes row_expiry_bytes liveness_bytes deletion_bytes row_deletion_bytes missing_of missing_bytes cells_bytes row_flags content_bytes sized_bytes static_bytes row_bytes deletions_bytes bound_bytes marker_bytes header_local deleted_bytes partitionHeadBytes entry_bytes back_behind entries_bytes partition_bytes form_of signed_at item_of stray_bytes has_time has_expiry has_local has_mark has_second has_column stray stray_first stray_last stray_numbers outside last_ranges_at ranges_at record_at kind_at unlike bad_place bad_nowhere bad_key bad_width bad_value bad_partition_flags bad_row_flags bad_value_flags bad_cell_flags bad_partition bad_row bad_static bad_first bad_marker bad_clustering bad_cell_place bad_cell bad_end deletion_of second_of times_of cell_of taken_values taken_prefix is_cell taken_cells taken_static taken_row taken_marker taken_entry taken_end taken_entries_in taken_entries taken_partition taken_in taken_at desk_at written_as fitting write_of
vectors = (refl, refl, refl, refl, refl, refl, refl, refl, refl, refl, refl, refl, refl, refl, refl, refl, refl, refl, refl, refl, refl, refl, refl, refl, refl, refl, refl, refl, refl, refl, refl)
