-- Entries of a checked record table, read again without the tests of their own records; their bytes; that these fit into a buffer, and are stored.
-- Assumes nothing.
use Rattle.std.specs.Prelude.{ℕ, ◌+◌, ◌≤◌, ◌≡◌, List, [], ◌∷◌, ◌++◌, eqb, length, get_or}
use Rattle.std.proofs.Math.Option.{Option}
use Rattle.common.specs.Choose.{pick}
use Rattle.common.specs.Got.{Got, got, bad, on, Reader}
use Rattle.common.specs.Store.{Room, Puts}
use Rattle.common.specs.declared.times.Bases.{Bases}
use Rattle.data_field.specs.Fields.{live}
use Rattle.data_field.specs.declared.fields.Deletion.{Deletion}
use Rattle.data_cell.specs.declared.cells.Cell.{Cell}
use Rattle.data_cell.specs.declared.cells.Times.{Times}
use Rattle.data_items.specs.declared.Item.{Item}
use Rattle.data_contents.specs.Contents.{Widths, Entry, static_entry, row_entry, marker_entry, Contents}
use Rattle.write_form.specs.Views.{RowView, show_cells, show_entry, show_entries, show_partition}
use Rattle.write_form.specs.Rows.{missing_of, content_bytes, sized_bytes}
use Rattle.write_form.specs.Whole.{entry_bytes, back_behind, entries_bytes, partition_bytes, contents_bytes}
use Rattle.write_accept.specs.Fields.{item_of}
use Rattle.write_accept.specs.Entries.{deletion_of, times_of, deletions_of, row_of, marker_of, partition_of, taken_values, taken_prefix, taken_cells, taken_entries}
use Rattle.write_store_parts.specs.Again.{plain_again}
use Rattle.write_store.specs.declared.entries.Behind.{Behind}
use Rattle.write_store.specs.declared.entries.Head.{Head}
use Rattle.write_store.specs.declared.entries.Bound.{Bound}
use Rattle.write_store.specs.declared.whole.Passed.{Passed}

-- ---- what a record says
abbrev pub head_of : Item → Head
head_of i = record { times = times_of i; deletion = deletion_of i }

abbrev pub bound_of : Item → Bound
bound_of i = record { kind = i.column; deletions = deletions_of i }

-- ---- entries, whose record stands at at
unfoldable pub static_again : Widths → Bases → List ℕ → Reader Entry
static_again t b bytes s at end = on (taken_cells b bytes 0 t.statics s (at + 64) end) (λ cs n. got (static_entry (row_of 1 (item_of s at)) cs) n)

unfoldable pub row_again : Widths → Bases → List ℕ → Reader Entry
row_again t b bytes s at end =
    on (taken_values b bytes 0 t.clustering s (at + 64) end) (λ vs m.
    on (taken_cells b bytes 0 t.regulars s m end) (λ cs n.
    got (row_entry (row_of 0 (item_of s at)) vs cs) n))

unfoldable pub marker_again : Widths → Bases → List ℕ → Reader Entry
marker_again t b bytes s at end = on (taken_prefix b bytes 0 t.clustering s (at + 64) end) (λ vs n. got (marker_entry (marker_of (item_of s at) vs) 0 vs) n)

-- ---- bytes
abbrev pub row_view : Times → Deletion → List ℕ → List (Option Cell) → RowView
row_view row d bytes cs = record { times = row; deletion = d; cells = show_cells bytes cs }

-- a row behind its clustering values, which are prefix; ws are the widths of its columns
unfoldable pub plain_written : Bases → List ℕ → List ℕ → ℕ → Times → Deletion → List ℕ → Got (List (Option Cell)) → List ℕ
plain_written b ws bytes back row d prefix (got cs n) = plain_again row d (missing_of (show_cells bytes cs)) prefix (sized_bytes back (content_bytes b ws (row_view row d bytes cs)))
plain_written b ws bytes back row d prefix (bad f p) = []

unfoldable pub entry_written : Bases → Widths → List ℕ → ℕ → Got Entry → List ℕ
entry_written b t bytes back (got e n) = entry_bytes b t back (show_entry bytes e)
entry_written b t bytes back (bad f p) = []

-- entries and the end byte
unfoldable pub entries_written : Bases → Widths → List ℕ → ℕ → Got (List Entry) → List ℕ
entries_written b t bytes back (got es n) = entries_bytes b t back (show_entries bytes es) ++ (1 ∷ [])
entries_written b t bytes back (bad f p) = []

unfoldable pub contents_written : Bases → Widths → List ℕ → Got (List Contents) → List ℕ
contents_written b t bytes (got ps n) = contents_bytes b t bytes ps
contents_written b t bytes (bad f p) = []

-- ---- storing
-- x is taken, and its bytes w fit into d from place at on
pub record Fitting {A : Type 0} (x : Got A) (w d : List ℕ) (at : ℕ) : Type 0 where
  pub value : A
  pub place : ℕ
  pub is : x ≡ got value place
  pub room : Room d at w
  pub small : length d ≤ 1073741824

-- the bytes w of x are stored in d from place at on, which becomes d'; r are the places behind x and behind them
pub record PutsTo {A : Type 0} (x : Got A) (w d d' : List ℕ) (at : ℕ) (r : Behind) : Type 0 where
  pub next : (a : A) (n : ℕ) → x ≡ got a n → r.next ≡ n
  pub puts : Puts d d' at w r.out

-- ---- any entry
unfoldable pub entry_again : Widths → Bases → List ℕ → Reader Entry
entry_again t b bytes s at end =
    pick (eqb (get_or s at 0) 2) (static_again t b bytes s at end)
    (pick (eqb (get_or s at 0) 3) (row_again t b bytes s at end)
    (marker_again t b bytes s at end))

-- its record stands at at; that of a marker has a marker's kind
pub record EntryThere (s : List ℕ) (at : ℕ) : Type 0 where
  pub within : at + 64 ≤ length s
  pub kind : (get_or s at 0 ≡ 2 → ⊥) → (get_or s at 0 ≡ 3 → ⊥) → (item_of s at).column ≤ 7

-- the entry x is stored, of which the previous size is back; r tells that of the next one too
pub record PutsEntry (b : Bases) (t : Widths) (bytes : List ℕ) (back : ℕ) (x : Got Entry) (d d' : List ℕ) (at : ℕ) (r : Passed) : Type 0 where
  pub next : (e : Entry) (n : ℕ) → x ≡ got e n → r.next ≡ n
  pub behind : (e : Entry) (n : ℕ) → x ≡ got e n → r.back ≡ back_behind back (length (entry_bytes b t back (show_entry bytes e))) (show_entry bytes e)
  pub puts : Puts d d' at (entry_written b t bytes back x) r.out

-- ---- a partition, whose record stands at at
unfoldable pub partition_again : Widths → Bases → List ℕ → Reader Contents
partition_again t b bytes s at end =
    on (taken_entries t b bytes 1 live s (at + 64) end) (λ es n. got (record { header = partition_of (item_of s at); entries = es; end = 0 }) n)

unfoldable pub partition_written : Bases → Widths → List ℕ → Got Contents → List ℕ
partition_written b t bytes (got p n) = partition_bytes b t (show_partition bytes p)
partition_written b t bytes (bad f p) = []

pub record KeyThere (bytes s : List ℕ) (at : ℕ) : Type 0 where
  pub within : at + 64 ≤ length s
  pub lies : (item_of s at).offset + (item_of s at).length ≤ length bytes
