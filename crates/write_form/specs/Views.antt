-- What Data shows: its contents without their places, and with the bytes of every key and value. Assumes nothing.
use Rattle.std.specs.Prelude.{ℕ, List, [], ◌∷◌}
use Rattle.std.proofs.Math.Option.{Option, none, some}
use Rattle.common.specs.Store.{shown}
use Rattle.data_field.specs.declared.fields.Deletion.{Deletion}
use Rattle.data_field.specs.declared.fields.Span.{Span}
use Rattle.data_cell.specs.declared.cells.Times.{Times}
use Rattle.data_cell.specs.declared.cells.Cell.{Cell}
use Rattle.data_row.specs.declared.rows.Row.{Row}
use Rattle.data_marker.specs.declared.markers.Deletions.{Deletions}
use Rattle.data_marker.specs.declared.markers.Marker.{Marker}
use Rattle.data_contents.specs.Contents.{Entry, static_entry, row_entry, marker_entry, Contents}

-- kind 0 a value, 1 an expiring one, 2 a tombstone, which has no value
pub record CellView : Type 0 where
  pub kind : ℕ
  pub timestamp : ℕ
  pub local : ℕ
  pub ttl : ℕ
  pub value : List ℕ

-- the body of a row: a cell for each column that has one
pub record RowView : Type 0 where
  pub times : Times
  pub deletion : Deletion
  pub cells : List (Option CellView)

pub record MarkerView : Type 0 where
  pub kind : ℕ
  pub values : List (List ℕ)
  pub deletions : Deletions

-- a static row, a row with its clustering values, a marker
pub data EntryView : Type 0 where
  static_view : RowView → EntryView
  row_view : List (List ℕ) → RowView → EntryView
  marker_view : MarkerView → EntryView

pub record PartitionView : Type 0 where
  pub key : List ℕ
  pub deletion : Deletion
  pub entries : List EntryView

-- ---- what is read shows, with the bytes s in which its values lie
abbrev pub show_value : List ℕ → Span → List ℕ
show_value s v = shown s v.start v.len

abbrev pub show_values : List ℕ → List Span → List (List ℕ)
show_values s [] = []
show_values s (v ∷ vs) = show_value s v ∷ show_values s vs

abbrev pub show_cell : List ℕ → Cell → CellView
show_cell s c = record { kind = c.kind; timestamp = c.timestamp; local = c.local; ttl = c.ttl; value = show_value s c.value }

abbrev pub show_cells : List ℕ → List (Option Cell) → List (Option CellView)
show_cells s [] = []
show_cells s (none ∷ cs) = none ∷ show_cells s cs
show_cells s (some c ∷ cs) = some (show_cell s c) ∷ show_cells s cs

abbrev pub show_row : List ℕ → Row → List (Option Cell) → RowView
show_row s r cs = record { times = r.body.times; deletion = r.body.deletion; cells = show_cells s cs }

abbrev pub show_marker : List ℕ → Marker → List Span → MarkerView
show_marker s m vs = record { kind = m.kind; values = show_values s vs; deletions = m.deletions }

abbrev pub show_entry : List ℕ → Entry → EntryView
show_entry s (static_entry r cs) = static_view (show_row s r cs)
show_entry s (row_entry r vs cs) = row_view (show_values s vs) (show_row s r cs)
show_entry s (marker_entry m n vs) = marker_view (show_marker s m vs)

abbrev pub show_entries : List ℕ → List Entry → List EntryView
show_entries s [] = []
show_entries s (e ∷ es) = show_entry s e ∷ show_entries s es

abbrev pub show_partition : List ℕ → Contents → PartitionView
show_partition s p = record { key = show_value s p.header.key; deletion = p.header.deletion; entries = show_entries s p.entries }

abbrev pub show_contents : List ℕ → List Contents → List PartitionView
show_contents s [] = []
show_contents s (p ∷ ps) = show_partition s p ∷ show_contents s ps
