-- "Records of 64 bytes": what a step hands out. Timestamp and marks are the signed number plus 2^63: where there is none, 2^63. Assumes nothing.
use Rattle.std.specs.Prelude.{ℕ, ◌-◌, ◌/◌, ◌%◌, Bool, true, List, [], eqb}
use Rattle.common.specs.Choose.{pick, bind}
use Rattle.common.specs.Store.{shown}
use Rattle.data_field.specs.declared.fields.Deletion.{Deletion}
use Rattle.data_field.specs.declared.fields.Span.{Span}
use Rattle.data_cell.specs.declared.cells.Times.{Times}
use Rattle.data_cell.specs.declared.cells.Cell.{Cell}
use Rattle.data_row.specs.declared.rows.Row.{Row}
use Rattle.data_marker.specs.declared.markers.Marker.{Marker}
use Rattle.data_partition.specs.declared.partitions.Partition.{Partition}
use Rattle.data_items.specs.declared.Item.{Item}

abbrev pub item : ℕ → ℕ → ℕ → ℕ → ℕ → ℕ → ℕ → ℕ → ℕ → ℕ → ℕ → ℕ → Item
item kind flags column ttl timestamp mark local expiry mark2 local2 offset length = record {
  kind = kind;
  flags = flags;
  column = column;
  ttl = ttl;
  timestamp = timestamp;
  mark = mark;
  local = local;
  expiry = expiry;
  mark2 = mark2;
  local2 = local2;
  offset = offset;
  length = length;
}

-- 0, plus 2^63
abbrev pub zeroed : ℕ
zeroed = 9223372036854775808

-- the mark of a deletion, and the timestamp of a row, if there is one
unfoldable pub mark_of : Deletion → ℕ
mark_of d = pick (eqb d.deleted 0) zeroed d.mark

unfoldable pub time_of : Times → ℕ
time_of t = pick (eqb t.timed 0) zeroed t.timestamp

-- "flags (1 timestamp, 2 TTL, 4 deletion or tombstone, always on markers, 8 empty key or value, not on a tombstone)": of a partition
-- whose key has len bytes, or (deleted 0) of a clustering value
unfoldable pub partition_flags : ℕ → ℕ → ℕ
partition_flags deleted len = pick (eqb deleted 0) (pick (eqb len 0) 8 0) (pick (eqb len 0) 12 4)

-- of a cell that is no tombstone: kind 1 is expiring
unfoldable pub cell_flags : ℕ → ℕ → ℕ
cell_flags kind len = pick (eqb kind 1) (pick (eqb len 0) 11 3) (pick (eqb len 0) 9 1)

unfoldable pub partition_item : Partition → Item
partition_item p =
    bind (partition_flags p.deletion.deleted p.key.len) (λ flags.
    bind (mark_of p.deletion) (λ mark.
    item 1 flags 0 0 zeroed mark p.deletion.local 0 zeroed 0 p.key.start p.key.len))

-- the flags are a row's own 04, 08 and 10
unfoldable pub row_item : ℕ → Row → Item
row_item kind r =
    bind (time_of r.body.times) (λ timestamp.
    bind (mark_of r.body.deletion) (λ mark.
    bind (r.body.stop - r.start) (λ len.
    item kind (r.flags / 4 % 8) 0 r.body.times.ttl timestamp mark r.body.deletion.local r.body.times.local zeroed 0 r.start len)))

unfoldable pub marker_item : Marker → ℕ → Item
marker_item m stop =
    bind (mark_of m.deletions.second) (λ mark.
    bind (stop - m.start) (λ len.
    item 4 4 m.kind 0 zeroed m.deletions.first.mark m.deletions.first.local 0 mark m.deletions.second.local m.start len))

unfoldable pub value_item : ℕ → Span → Item
value_item column v = bind (partition_flags 0 v.len) (λ flags. item 5 flags column 0 zeroed zeroed 0 0 zeroed 0 v.start v.len)

unfoldable pub cell_item : ℕ → Cell → Item
cell_item column c =
    pick (eqb c.kind 2)
    (item 6 5 column 0 c.timestamp zeroed c.local 0 zeroed 0 0 0)
    (bind (cell_flags c.kind c.value.len) (λ flags.
    item 6 flags column c.ttl c.timestamp zeroed 0 c.local zeroed 0 c.value.start c.value.len))

unfoldable pub end_item : ℕ → Item
end_item at = item 7 0 0 0 zeroed zeroed 0 0 zeroed 0 at 1

-- the kinds that show a key, a clustering value or a cell's value; the others show the whole item
unfoldable pub shows_value : ℕ → Bool
shows_value kind = pick (eqb kind 1) true (pick (eqb kind 5) true (eqb kind 6))

-- "a value is handed out as the part of Data that holds it" (decision L10). An item of a kind that shows none has the empty part, and so
-- has one whose place is outside s
unfoldable pub value_of : List ℕ → Item → List ℕ
value_of s i = pick (shows_value i.kind) (shown s i.offset i.length) []
