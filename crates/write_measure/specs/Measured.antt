-- How long what the writer takes is in its form: entries, and all of Data. Assumes nothing.
use Rattle.std.specs.Prelude.{ℕ, ◌+◌, List, length}
use Rattle.common.specs.Got.{Got, got, bad, Reader, ◌>>=◌, ret}
use Rattle.common.specs.declared.times.Bases.{Bases}
use Rattle.data_field.specs.declared.fields.Deletion.{Deletion}
use Rattle.data_marker.specs.declared.markers.Deletions.{Deletions}
use Rattle.data_items.specs.declared.Item.{Item}
use Rattle.data_contents.specs.Contents.{Widths, Entry, static_entry, row_entry, Contents, open_behind}
use Rattle.write_form.specs.Views.{show_entry, show_entries}
use Rattle.write_form.specs.Markers.{deletions_bytes}
use Rattle.write_form.specs.Whole.{entry_bytes, back_behind, entries_bytes, contents_bytes}
use Rattle.write_accept.specs.Entries.{deletion_of, times_of, row_of, taken_values, taken_cells}
use Rattle.write_row_parts.specs.Parts.{head_form, sizes_form, header_form}

-- ---- entries
-- what follows a row's sizes, where its cells have n bytes
unfoldable pub body_length : Bases → Item → ℕ → ℕ → ℕ
body_length b i missing n = length (head_form b (times_of i) (deletion_of i) missing) + n

-- n bytes with the sizes before them
unfoldable pub sized_length : ℕ → ℕ → ℕ
sized_length previous n = length (sizes_form previous n) + n

-- a static row whose cells have n bytes
unfoldable pub static_length : Bases → Item → ℕ → ℕ → ℕ
static_length b i missing n = 2 + sized_length 0 (body_length b i missing n)

-- a row: its clustering values, whose header is h, have v bytes
unfoldable pub row_length : Bases → Item → ℕ → ℕ → ℕ → ℕ → ℕ → ℕ → ℕ
row_length b i back count h v missing n = 1 + length (header_form count h) + v + sized_length back (body_length b i missing n)

unfoldable pub marker_length : Bases → ℕ → Deletions → ℕ → ℕ → ℕ → ℕ → ℕ
marker_length b kind d back count h v = 4 + length (header_form count h) + v + sized_length back (length (deletions_bytes b kind d))

-- a static row's cells, behind its record, which says i
unfoldable pub static_behind : Widths → Bases → List ℕ → Item → Reader Entry
static_behind t b bytes i = taken_cells b bytes 0 t.statics >>= (λ cs. ret (static_entry (row_of 1 i) cs))

-- a row's values and cells, behind its record, which says i
unfoldable pub row_behind : Widths → Bases → List ℕ → Item → Reader Entry
row_behind t b bytes i =
    taken_values b bytes 0 t.clustering >>= (λ vs.
    taken_cells b bytes 0 t.regulars >>= (λ cs.
    ret (row_entry (row_of 0 i) vs cs)))

-- behind an entry: the deletion of the open range, and what the next one's previous size counts; and how long the entry is
unfoldable pub entry_measured : Bases → Widths → List ℕ → Deletion → ℕ → Got Entry → Got (Deletion × ℕ × ℕ)
entry_measured b t bytes opened back (got e n) =
    got (open_behind opened e, back_behind back (length (entry_bytes b t back (show_entry bytes e))) (show_entry bytes e), length (entry_bytes b t back (show_entry bytes e))) n
entry_measured b t bytes opened back (bad f p) = bad f p

-- the end byte, with total bytes before it
unfoldable pub end_measured : ℕ → Got (List Entry) → Got ℕ
end_measured total (got es n) = got (total + 1) n
end_measured total (bad f p) = bad f p

-- entries and the end byte, with total bytes before them
unfoldable pub entries_measured : Bases → Widths → List ℕ → ℕ → ℕ → Got (List Entry) → Got ℕ
entries_measured b t bytes back total (got es n) = got (total + length (entries_bytes b t back (show_entries bytes es)) + 1) n
entries_measured b t bytes back total (bad f p) = bad f p

-- ---- all of Data
unfoldable pub contents_measured : Bases → Widths → List ℕ → Got (List Contents) → Got ℕ
contents_measured b t bytes (got ps n) = got (length (contents_bytes b t bytes ps)) n
contents_measured b t bytes (bad f p) = bad f p
