-- Document 01's examples as ONE statement: the four varints, and the five outcomes of its file as the listing program prints them. Assumes
-- nothing.
use mathlib.Core.Path.{◌≡◌, refl, ◌∙◌, ap}
use mathlib.Core.List.{List, [], ◌∷◌, ◌++◌}
use Prim.Native.Nat.{ℕ, ◌-◌, ◌^◌}
use lib.Ieee as Ieee
use Rattle.common.specs.Choose.{pick, bind}
use Rattle.common.specs.Got.{on, within}
use Rattle.number_fixed.specs.BigEndian.{big_endian, bytes_of, fixed_at}
use Rattle.common.specs.Store.{part, shown}
use Rattle.common.specs.Times.{biased}
use Rattle.number_varint.specs.Varints.{leading, low, varint_at}
use Rattle.common.specs.declared.times.Bases.{Bases}
use Rattle.number_varint.proofs.Vectors.{Spells, vectors}
use Rattle.text.specs.Text.{text, same, among}
use Rattle.type_table.specs.Table.{table, line_in, nth, is_line}
use Rattle.type_table.specs.Table.{line_of as typeLine}
use Rattle.type_name.specs.Names.{blank, alphanumeric, of_name, of_parameters, past, up_to, named, inside}
use Rattle.type_string.specs.Strings.{opened, tail, typed, behind, plain, line_with, string_with, held, type_of, string_at, type_at}
use Rattle.type_name.specs.Names.{counted as parametersCounted}
use Rattle.schema_check.specs.Records.{most_of, role_at, line_at, mark_at, width_at, name_len_at, zeros_at, is_line_of, is_name_of, is_kind_of, given, count_of, is_passed, is_first, in_turn, with_one, record_at, records_at, schema_at, schema_of}
use Rattle.schema_check.specs.Records.{name_at as recordNameAt}
use Rattle.stats_contents.specs.Contents.{offset_of, with_entry, used, entry_type_at, offset_at, pairs_at, present, nearer, end_of}
use Rattle.stats_contents.specs.Contents.{contents_at as entryContentsAt}
use Rattle.stats_contents.specs.Contents.{count_at as entryCountAt}
use Rattle.stats_validation.specs.Validation.{chance_of, chance_at, validation_at}
use Rattle.stats_file.specs.Bases.{timestamp_at, local_of, local_at, ttl_at, bases_at}
use Rattle.stats_file.specs.Header.{count_at, is_named, name_at, typed_at, named_at, column_at, columns_at, group_at, groups_at, head_of, place_of, tail_of, record_of, records_of}
use Rattle.stats_file.specs.Header.{header_at as statisticsHeaderAt}
use Rattle.stats_file.specs.Statistics.{entry0_at, entry3_at, forward_at, backward_at, file_at}
use Rattle.stats_file.specs.Statistics.{entries_at as statisticsEntriesAt}
use Rattle.data_field.specs.Fields.{byte_at, in_at, deletion_at, variable_at, value_at}
use Rattle.data_cell.specs.Cells.{bad_flags, flags_at, last_at, expiring_at, content_at, timed_at, cell_at}
use Rattle.data_clustering.specs.Prefixes.{bad_header, header_at, clustering_at, values_at, skipped, prefix_at, widths_at}
use Rattle.data_clustering.specs.Sizes.{sizes_at}
use Rattle.data_row.specs.Flags.{bad_row_flags, row_flags_at, extended_of, extended_at}
use Rattle.data_turns.specs.Turns.{may_stand}
use Rattle.data_row.specs.Bodies.{expiry_at, liveness_at, row_deletion_at, columns, present_at, body_at}
use Rattle.data_row.specs.Bodies.{content_at as rowContentAt}
use Rattle.data_row.specs.Rows.{rest_at, row_at}
use Rattle.data_partition.specs.Partitions.{key_of, deleted_by, deleted_at, partition_at}
use Rattle.data_items.specs.Items.{mark_of, time_of, partition_flags, cell_flags, partition_item, row_item, value_item, cell_item, end_item}
use Rattle.call_check.specs.Tables.{bad_bases, after, table_at}
use Rattle.data_contents.specs.Contents.{widths_of, cells_at, body_cells_at, row_entry_at, entry_at, closed_at, entries_in, entries_at, whole_at, partitions_in, contents_at, listing, contents_of}
use Rattle.list_call.specs.Lists.{list_at}
use Rattle.print_line.specs.Numbers.{digits, decimal, signed}
use Rattle.print_line.specs.Lines.{spaced, ended, line_of, lines_of, refusal_line}
use Rattle.print_line.specs.Reports.{statistics_at, listed_at, text_of, report_of}
use Rattle.demands.specs.OneFile.{statistics, «data», line}

-- what document 01's Statistics gives
abbrev bases : Bases
bases = record { timestamp = 9224814916854775808; local = 1442880000; ttl = 0 }

abbrev schema : List ℕ
schema = 0 ∷ 33 ∷ 0 ∷ 255 ∷ 0 ∷ 0 ∷ 0 ∷ 0 ∷ 0 ∷ 0 ∷ 0 ∷ 0 ∷ 0 ∷ 0 ∷ 0 ∷ 0
    ∷ 1 ∷ 17 ∷ 0 ∷ 4 ∷ 0 ∷ 0 ∷ 0 ∷ 0 ∷ 0 ∷ 0 ∷ 0 ∷ 0 ∷ 0 ∷ 0 ∷ 0 ∷ 0
    ∷ 3 ∷ 17 ∷ 0 ∷ 4 ∷ 0 ∷ 0 ∷ 0 ∷ 99 ∷ 0 ∷ 0 ∷ 0 ∷ 1 ∷ 0 ∷ 0 ∷ 0 ∷ 0 ∷ []

statistics_gives : (s : List ℕ) → listed_at statistics s ≡ list_at schema bases s 0
unfolding Ieee.nan_bits Ieee.of_bits Ieee.le file_at entryContentsAt entryCountAt pairs_at entry_type_at offset_at offset_of with_entry used present nearer end_of statisticsEntriesAt forward_at backward_at entry0_at entry3_at validation_at chance_at chance_of statisticsHeaderAt groups_at group_at columns_at column_at typed_at named_at name_at is_named count_at most_of bases_at timestamp_at local_at local_of ttl_at biased type_at string_at type_of held string_with line_with plain behind typed tail opened inside parametersCounted named up_to past of_parameters of_name alphanumeric blank table line_in nth typeLine same among varint_at leading low big_endian fixed_at bytes_of part shown on pick bind records_of record_of head_of place_of tail_of listed_at statistics_at within after
statistics_gives s = refl

-- what is printed of the Data s is this text
abbrev Prints : List ℕ → List ℕ → Type 0
Prints s w = report_of statistics s ≡ w

prints : (s w : List ℕ) → text_of (list_at schema bases s 0) ≡ w → Prints s w
unfolding report_of
prints s w e = ap text_of (statistics_gives s) ∙ e

five_lines : text_of (list_at schema bases («data» 7 (1 ∷ [])) 0)
    ≡ line (text "1 0 0 0 0 0 0 0 0 0 2 1")
    ++ line (text "3 1 0 0 1442880000000005 0 0 0 0 0 15 14")
    ++ line (text "5 0 0 0 0 0 0 0 0 0 17 4")
    ++ line (text "6 1 0 0 1442880000000005 0 0 0 0 0 25 4")
    ++ line (text "7 0 0 0 0 0 0 0 0 0 29 1")
unfolding text_of list_at table_at bad_bases after schema_of schema_at records_at record_at given is_kind_of is_name_of is_line_of is_line role_at line_at mark_at width_at recordNameAt name_len_at zeros_at in_turn is_first is_passed count_of most_of with_one within table nth typeLine pick bind varint_at big_endian fixed_at leading low on byte_at in_at deletion_at variable_at value_at bad_flags flags_at last_at expiring_at content_at timed_at cell_at bad_header header_at clustering_at values_at skipped prefix_at widths_at sizes_at bad_row_flags row_flags_at may_stand extended_of extended_at expiry_at liveness_at row_deletion_at columns present_at rowContentAt body_at rest_at row_at key_of biased deleted_by deleted_at partition_at mark_of time_of partition_flags cell_flags partition_item row_item value_item cell_item end_item widths_of cells_at body_cells_at row_entry_at entry_at closed_at entries_in entries_at whole_at partitions_in contents_at listing contents_of digits decimal signed spaced ended line_of lines_of refusal_line
five_lines = refl

damaged : (text_of (list_at schema bases («data» 8 (1 ∷ [])) 0) ≡ line (text "refused 3 data 29"))
    × (text_of (list_at schema bases («data» 6 (1 ∷ [])) 0) ≡ line (text "refused 2 data 25"))
    × (text_of (list_at schema bases («data» 7 []) 0) ≡ line (text "refused 2 data 29"))
    × (text_of (list_at schema bases [] 0) ≡ [])
unfolding text_of list_at table_at bad_bases after schema_of schema_at records_at record_at given is_kind_of is_name_of is_line_of is_line role_at line_at mark_at width_at recordNameAt name_len_at zeros_at in_turn is_first is_passed count_of most_of with_one within table nth typeLine pick bind varint_at big_endian fixed_at leading low on byte_at in_at deletion_at variable_at value_at bad_flags flags_at last_at expiring_at content_at timed_at cell_at bad_header header_at clustering_at values_at skipped prefix_at widths_at sizes_at bad_row_flags row_flags_at may_stand extended_of extended_at expiry_at liveness_at row_deletion_at columns present_at rowContentAt body_at rest_at row_at key_of biased deleted_by deleted_at partition_at mark_of time_of partition_flags cell_flags partition_item row_item value_item cell_item end_item widths_of cells_at body_cells_at row_entry_at entry_at closed_at entries_in entries_at whole_at partitions_in contents_at listing contents_of digits decimal signed spaced ended line_of lines_of refusal_line
damaged = (refl, refl, refl, refl)

-- "The four varints, this file's five outcomes .. are one table, proved as one statement". Spells x bs: the shortest varint of x is bs, and bs
-- is read as x
pub examples : Spells 127 (0x7F ∷ [])
    × Spells 128 (0x80 ∷ 0x80 ∷ [])
    × Spells (2 ^ 56) (0xFF ∷ 0x01 ∷ 0 ∷ 0 ∷ 0 ∷ 0 ∷ 0 ∷ 0 ∷ 0 ∷ [])
    × Spells (2 ^ 64 - 1) (0xFF ∷ 0xFF ∷ 0xFF ∷ 0xFF ∷ 0xFF ∷ 0xFF ∷ 0xFF ∷ 0xFF ∷ 0xFF ∷ [])
    × Prints («data» 7 (1 ∷ [])) (
    line (text "1 0 0 0 0 0 0 0 0 0 2 1")
    ++ line (text "3 1 0 0 1442880000000005 0 0 0 0 0 15 14")
    ++ line (text "5 0 0 0 0 0 0 0 0 0 17 4")
    ++ line (text "6 1 0 0 1442880000000005 0 0 0 0 0 25 4")
    ++ line (text "7 0 0 0 0 0 0 0 0 0 29 1")
    )
    × Prints («data» 8 (1 ∷ [])) (line (text "refused 3 data 29"))  -- body size 08
    × Prints («data» 6 (1 ∷ [])) (line (text "refused 2 data 25"))  -- body size 06
    × Prints («data» 7 []) (line (text "refused 2 data 29"))  -- without the last byte
    × Prints [] []  -- empty Data: accepted, no records
examples =
    (vectors.0, vectors.1, vectors.2, vectors.3, prints _ _ five_lines, prints _ _ damaged.0, prints _ _ damaged.1, prints _ _ damaged.2, prints _ _ damaged.3)
