-- All of Data in the writer's form. "Previous size ..: the writer puts 0 for a static row, else the bytes back to the previous row or
-- marker, static aside, or if none to the partition's first byte." Assumes nothing.
use Rattle.std.specs.Prelude.{ℕ, ◌+◌, List, [], ◌∷◌, ◌++◌, length}
use Rattle.common.specs.declared.times.Bases.{Bases}
use Rattle.data_contents.specs.Contents.{Widths, Contents}
use Rattle.write_form.specs.Views.{EntryView, static_view, row_view, marker_view, PartitionView, show_contents}
use Rattle.write_form.specs.Rows.{static_bytes, row_bytes}
use Rattle.write_form.specs.Markers.{marker_bytes}
use Rattle.write_form.specs.Partitions.{head_bytes}

-- an entry that begins `back` bytes behind what its previous size counts from
unfoldable pub entry_bytes : Bases → Widths → ℕ → EntryView → List ℕ
entry_bytes b t back (static_view r) = static_bytes b t.statics r
entry_bytes b t back (row_view vs r) = row_bytes b t.clustering t.regulars back vs r
entry_bytes b t back (marker_view m) = marker_bytes b t.clustering back m

-- the same of the entry behind one of n bytes
unfoldable pub back_behind : ℕ → ℕ → EntryView → ℕ
back_behind back n (static_view r) = back + n
back_behind back n (row_view vs r) = n
back_behind back n (marker_view m) = n

unfoldable pub entries_bytes : Bases → Widths → ℕ → List EntryView → List ℕ
entries_bytes b t back [] = []
entries_bytes b t back (e ∷ es) = entry_bytes b t back e ++ entries_bytes b t (back_behind back (length (entry_bytes b t back e)) e) es

-- a partition, with its end byte
unfoldable pub partition_bytes : Bases → Widths → PartitionView → List ℕ
partition_bytes b t p = head_bytes p.key p.deletion ++ (entries_bytes b t (length (head_bytes p.key p.deletion)) p.entries ++ (1 ∷ []))

unfoldable pub form_of : Bases → Widths → List PartitionView → List ℕ
form_of b t [] = []
form_of b t (p ∷ ps) = partition_bytes b t p ++ form_of b t ps

-- what was read, whose values lie in bytes
abbrev pub contents_bytes : Bases → Widths → List ℕ → List Contents → List ℕ
contents_bytes b t bytes ps = form_of b t (show_contents bytes ps)
