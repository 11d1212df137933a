-- Values and cells as their records spell them: a record table that was checked is read again, without its tests. Assumes nothing.
use Rattle.std.specs.Prelude.{ℕ, zero, suc, ◌+◌, ◌*◌, ◌≤◌, ◌<◌, List, [], ◌∷◌, ◌++◌, length, get_or}
use Rattle.common.specs.Store.{shown}
use Rattle.common.specs.declared.times.Bases.{Bases}
use Rattle.data_field.specs.declared.fields.Deletion.{Deletion}
use Rattle.data_cell.specs.declared.cells.Times.{Times}
use Rattle.data_marker.specs.declared.markers.Deletions.{Deletions}
use Rattle.write_form.specs.Cells.{cell_bytes}
use Rattle.write_form.specs.Clusterings.{clustering_bytes}
use Rattle.write_form.specs.Rows.{row_flags}
use Rattle.write_form.specs.Markers.{deletions_bytes}
use Rattle.write_row_parts.specs.Parts.{head_form, sizes_form, header_form, bound_form}
use Rattle.write_accept.specs.Fields.{item_of}
use Rattle.write_accept.specs.Entries.{cell_of}

-- the clustering value whose record stands at at, of the column whose record stands at column in the schema c
unfoldable pub value_again : List ℕ → ℕ → List ℕ → List ℕ → ℕ → List ℕ
value_again c column bytes s at = clustering_bytes (get_or c (column + 3) 0) (shown bytes (item_of s at).offset (item_of s at).length)

-- those of k columns
unfoldable pub values_again : List ℕ → ℕ → List ℕ → List ℕ → ℕ → ℕ → List ℕ
values_again c column bytes s at zero = []
values_again c column bytes s at (suc k) = value_again c column bytes s at ++ values_again c (column + 16) bytes s (at + 64) k

-- the cell whose record stands at at, which tells its column; the records of the columns stand from base on
unfoldable pub cell_again : Bases → Times → List ℕ → ℕ → List ℕ → List ℕ → ℕ → List ℕ
cell_again b row c base bytes s at =
    cell_bytes b row (get_or c (base + 16 * (item_of s at).column + 3) 0) (cell_of (item_of s at))
    (shown bytes (cell_of (item_of s at)).value.start (cell_of (item_of s at)).value.len)

-- k cells
unfoldable pub cells_again : Bases → Times → List ℕ → ℕ → List ℕ → List ℕ → ℕ → ℕ → List ℕ
cells_again b row c base bytes s at zero = []
cells_again b row c base bytes s at (suc k) = cell_again b row c base bytes s at ++ cells_again b row c base bytes s (at + 64) k

-- k records stand from at on, whose values lie in bytes
pub record ValuesThere (bytes s : List ℕ) (at k : ℕ) : Type 0 where
  pub within : (i : ℕ) → i < k → at + 64 * i + 64 ≤ length s
  pub lie : (i : ℕ) → i < k → (item_of s (at + 64 * i)).offset + (item_of s (at + 64 * i)).length ≤ length bytes

-- the same of cells, whose columns stand in the schema c
pub record CellsThere (c : List ℕ) (base : ℕ) (bytes s : List ℕ) (at k : ℕ) : Type 0 where
  pub within : (i : ℕ) → i < k → at + 64 * i + 64 ≤ length s
  pub known : (i : ℕ) → i < k → base + 16 * (item_of s (at + 64 * i)).column + 16 ≤ length c
  pub lie : (i : ℕ) → i < k → (cell_of (item_of s (at + 64 * i))).value.start + (cell_of (item_of s (at + 64 * i))).value.len ≤ length bytes

-- ---- rows and markers: the header, the missing columns and the length of the cells are known beforehand
-- the values of the first count columns, with their header
unfoldable pub prefix_again : List ℕ → ℕ → ℕ → List ℕ → List ℕ → ℕ → List ℕ
prefix_again c count header bytes s at = header_form count header ++ values_again c 16 bytes s at count

-- what follows a row's sizes
unfoldable pub content_again : Bases → Times → Deletion → ℕ → List ℕ → ℕ → List ℕ → List ℕ → ℕ → ℕ → List ℕ
content_again b row d missing c base bytes s at k = head_form b row d missing ++ cells_again b row c base bytes s at k

-- the same with its sizes, where the cells have n bytes
unfoldable pub body_again : ℕ → ℕ → Bases → Times → Deletion → ℕ → List ℕ → ℕ → List ℕ → List ℕ → ℕ → ℕ → List ℕ
body_again previous n b row d missing c base bytes s at k =
    sizes_form previous (length (head_form b row d missing) + n) ++ content_again b row d missing c base bytes s at k

-- a row: its flags, its clustering values, its body
unfoldable pub plain_again : Times → Deletion → ℕ → List ℕ → List ℕ → List ℕ
plain_again row d missing prefix body = (row_flags 0 row d missing ∷ []) ++ (prefix ++ body)

-- a static row
unfoldable pub fixed_again : Times → Deletion → ℕ → List ℕ → List ℕ
fixed_again row d missing body = (row_flags 1 row d missing ∷ []) ++ ((1 ∷ []) ++ body)

-- a marker's deletions with their sizes
unfoldable pub deletions_again : Bases → ℕ → ℕ → Deletions → List ℕ
deletions_again b previous kind x = sizes_form previous (length (deletions_bytes b kind x)) ++ deletions_bytes b kind x

-- a marker of count clustering values
unfoldable pub bound_again : Bases → ℕ → ℕ → ℕ → Deletions → List ℕ → List ℕ
bound_again b previous kind count x prefix = bound_form kind count ++ (prefix ++ deletions_again b previous kind x)

-- what a row's flags take is a bit each
pub record Bits (row : Times) (d : Deletion) : Type 0 where
  pub timed : row.timed ≤ 1
  pub expires : row.expires ≤ 1
  pub deleted : d.deleted ≤ 1
