-- What the writer takes: partitions, each with its entries, as reading gives them. A row, a marker and an end have no place here (0). What is
-- missing is told at the record that stands in its place (decision W5). Assumes nothing.
use Rattle.std.specs.Prelude.{ℕ, zero, suc, ◌+◌, ◌-◌, ◌*◌, Bool, false, List, [], ◌∷◌, eqb, length, get_or}
use Rattle.std.proofs.Math.Option.{Option, none, some}
use Rattle.common.specs.Choose.{pick}
use Rattle.common.specs.Got.{got, bad, on, Reader, ◌>>=◌, ret, when}
use Rattle.common.specs.declared.refusal.Fault.TheVariants.{BadRecord}
use Rattle.common.specs.declared.times.Bases.{Bases}
use Rattle.data_field.specs.Fields.{span, deletion, live}
use Rattle.data_cell.specs.Cells.{cell}
use Rattle.data_field.specs.declared.fields.Deletion.{Deletion}
use Rattle.data_field.specs.declared.fields.Span.{Span}
use Rattle.data_cell.specs.declared.cells.Times.{Times}
use Rattle.data_cell.specs.declared.cells.Cell.{Cell}
use Rattle.data_row.specs.Bodies.{times, body}
use Rattle.data_row.specs.Rows.{row}
use Rattle.data_row.specs.declared.rows.Row.{Row}
use Rattle.data_marker.specs.Markers.{marker}
use Rattle.data_marker.specs.declared.markers.Deletions.{Deletions}
use Rattle.data_marker.specs.declared.markers.Marker.{Marker}
use Rattle.data_partition.specs.declared.partitions.Partition.{Partition}
use Rattle.data_items.specs.declared.Item.{Item}
use Rattle.data_contents.specs.Contents.{Widths, Entry, static_entry, row_entry, marker_entry, Contents, open_behind}
use Rattle.write_accept.specs.Fields.{has_time, has_expiry, has_local, has_second}
use Rattle.write_accept.specs.Records.{record_at, kind_at}
use Rattle.write_accept.specs.Tests.{bad_partition, bad_row, bad_static, bad_marker, bad_clustering, bad_cell, bad_end}

-- ---- what an item says
abbrev pub value_of : Item → Span
value_of i = span i.offset i.length

unfoldable pub deletion_of : Item → Deletion
deletion_of i = pick (has_local i) (deletion 1 i.mark i.local) live

unfoldable pub second_of : Item → Deletion
second_of i = pick (has_second i) (deletion 1 i.mark2 i.local2) live

unfoldable pub times_of : Item → Times
times_of i =
    pick (has_time i)
    (pick (has_expiry i) (times 1 i.timestamp 1 i.expiry i.ttl) (times 1 i.timestamp 0 0 0))
    (times 0 0 0 0 0)

unfoldable pub cell_of : Item → Cell
cell_of i =
    pick (has_local i) (cell 2 i.timestamp i.local 0 (span 0 0))
    (pick (has_expiry i) (cell 1 i.timestamp i.expiry i.ttl (value_of i))
    (cell 0 i.timestamp 0 0 (value_of i)))

-- extended is 1 for a static row; a row's own flags 04, 08 and 10 are the record's
abbrev pub row_of : ℕ → Item → Row
row_of extended i = row 0 (4 * i.flags) extended (record { header = 0; values = 0 }) (body 0 (times_of i) (deletion_of i) 0)

abbrev pub deletions_of : Item → Deletions
deletions_of i = record { first = deletion 1 i.mark i.local; second = second_of i }

abbrev pub marker_of : Item → List Span → Marker
marker_of i vs = marker 0 i.column (length vs) (record { header = 0; values = 0 }) (deletions_of i)

abbrev pub partition_of : Item → Partition
partition_of i = record { key = value_of i; deletion = deletion_of i }

-- ---- values and cells, from a column on; bytes are those lent beside the records
-- "a row has all its clustering values, in order"
unfoldable pub taken_values : Bases → List ℕ → ℕ → List ℕ → Reader (List Span)
taken_values b bytes column [] = ret []
taken_values b bytes column (w ∷ ws) = record_at b (bad_clustering bytes column w) >>= (λ i. taken_values b bytes (column + 1) ws >>= (λ vs. ret (value_of i ∷ vs)))

-- "a marker the first 0 to all columns"
unfoldable pub taken_prefix : Bases → List ℕ → ℕ → List ℕ → Reader (List Span)
taken_prefix b bytes column [] s at end = got [] at
taken_prefix b bytes column (w ∷ ws) s at end =
    pick (eqb (get_or s at 0) 5)
    (on (record_at b (bad_clustering bytes column w) s at end) (λ i n. on (taken_prefix b bytes (column + 1) ws s n end) (λ vs m. got (value_of i ∷ vs) m)))
    (got [] at)

-- whether the record at at is a cell of a column
unfoldable pub is_cell : ℕ → List ℕ → ℕ → Bool
is_cell column s at = pick (eqb (get_or s at 0) 6) (eqb (get_or s (at + 2) 0) column) false

-- "cells' columns rise strictly": one that does not is no cell here, and then no entry
unfoldable pub taken_cells : Bases → List ℕ → ℕ → List ℕ → Reader (List (Option Cell))
taken_cells b bytes column [] s at end = got [] at
taken_cells b bytes column (w ∷ ws) s at end =
    pick (is_cell column s at)
    (on (record_at b (bad_cell bytes column w) s at end) (λ i n. on (taken_cells b bytes (column + 1) ws s n end) (λ cs m. got (some (cell_of i) ∷ cs) m)))
    (on (taken_cells b bytes (column + 1) ws s at end) (λ cs m. got (none ∷ cs) m))

-- ---- entries
-- first is 1 right behind the partition's record
unfoldable pub taken_static : Widths → Bases → List ℕ → ℕ → Reader Entry
taken_static t b bytes first =
    record_at b (bad_static first (length t.statics)) >>= (λ i.
    taken_cells b bytes 0 t.statics >>= (λ cs.
    ret (static_entry (row_of 1 i) cs)))

unfoldable pub taken_row : Widths → Bases → List ℕ → Reader Entry
taken_row t b bytes =
    record_at b (bad_row 3) >>= (λ i.
    taken_values b bytes 0 t.clustering >>= (λ vs.
    taken_cells b bytes 0 t.regulars >>= (λ cs.
    ret (row_entry (row_of 0 i) vs cs))))

-- a marker where the deletion of the open range is `opened`
unfoldable pub taken_marker : Widths → Bases → List ℕ → Deletion → Reader Entry
taken_marker t b bytes opened =
    record_at b (bad_marker opened) >>= (λ i.
    taken_prefix b bytes 0 t.clustering >>= (λ vs.
    ret (marker_entry (marker_of i vs) 0 vs)))

unfoldable pub taken_entry : Widths → Bases → List ℕ → ℕ → Deletion → ℕ → Reader Entry
taken_entry t b bytes first opened kind =
    when (eqb kind 2) (taken_static t b bytes first)
    (when (eqb kind 3) (taken_row t b bytes)
    (when (eqb kind 4) (taken_marker t b bytes opened)
    (λ s at end. bad BadRecord at)))

-- the end record
unfoldable pub taken_end : Bases → Deletion → Reader (List Entry)
taken_end b opened = record_at b (bad_end opened) >>= (λ i. ret [])

-- the entries and the end record, at most j entries
unfoldable pub taken_entries_in : ℕ → Widths → Bases → List ℕ → ℕ → Deletion → Reader (List Entry)
taken_entries_in zero t b bytes first opened s at end = bad BadRecord end
taken_entries_in (suc j) t b bytes first opened s at end =
    on (kind_at s at end) (λ kind n.
    pick (eqb kind 7) (taken_end b opened s at end)
    (on (taken_entry t b bytes first opened kind s at end) (λ e m.
    on (taken_entries_in j t b bytes 0 (open_behind opened e) s m end) (λ es p.
    got (e ∷ es) p))))

-- each has a record or more, so that they are not more than the bytes
unfoldable pub taken_entries : Widths → Bases → List ℕ → ℕ → Deletion → Reader (List Entry)
taken_entries t b bytes first opened s at end = taken_entries_in (end - at) t b bytes first opened s at end

-- ---- partitions
-- a partition's deletion has no base (decision W10)
abbrev pub baseless : Bases
baseless = record { timestamp = 0; local = 0; ttl = 0 }

unfoldable pub taken_partition : Widths → Bases → List ℕ → Reader Contents
taken_partition t b bytes =
    record_at baseless (bad_partition bytes) >>= (λ i.
    taken_entries t b bytes 1 live >>= (λ es.
    ret (record { header = partition_of i; entries = es; end = 0 })))

-- partitions up to the end, at most j of them
unfoldable pub taken_in : ℕ → Widths → Bases → List ℕ → Reader (List Contents)
taken_in zero t b bytes s at end = got [] at
taken_in (suc j) t b bytes s at end =
    pick (eqb at end) (got [] at)
    (on (taken_partition t b bytes s at end) (λ p n.
    on (taken_in j t b bytes s n end) (λ ps m.
    got (p ∷ ps) m)))

-- all that a record table holds, whose values lie in bytes
unfoldable pub taken_at : Widths → Bases → List ℕ → Reader (List Contents)
taken_at t b bytes s at end = taken_in (end - at) t b bytes s at end
