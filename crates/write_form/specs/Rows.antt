-- A row in the writer's form: "20 when no column is missing, 80 on static rows alone". Assumes nothing.
use Rattle.std.specs.Prelude.{ℕ, ◌+◌, ◌-◌, ◌*◌, List, [], ◌∷◌, ◌++◌, eqb, length}
use Rattle.std.proofs.Math.Option.{Option, none, some}
use Rattle.common.specs.Choose.{pick}
use Rattle.number_varint.specs.Varints.{shortest}
use Rattle.common.specs.declared.times.Bases.{Bases}
use Rattle.data_field.specs.declared.fields.Deletion.{Deletion}
use Rattle.data_cell.specs.declared.cells.Times.{Times}
use Rattle.write_form.specs.Views.{CellView, RowView}
use Rattle.write_form.specs.Cells.{cell_form}
use Rattle.write_form.specs.Clusterings.{prefix_bytes}

-- TTL and local deletion time, where the row has them
unfoldable pub row_expiry_bytes : Bases → Times → List ℕ
row_expiry_bytes b row = pick (eqb row.expires 1) (shortest (row.ttl - b.ttl) ++ shortest (row.local - b.local)) []

unfoldable pub liveness_bytes : Bases → Times → List ℕ
liveness_bytes b row = pick (eqb row.timed 1) (shortest (row.timestamp - b.timestamp) ++ row_expiry_bytes b row) []

-- "deletion (mark, local time)"
unfoldable pub deletion_bytes : Bases → Deletion → List ℕ
deletion_bytes b d = shortest (d.mark - b.timestamp) ++ shortest (d.local - b.local)

unfoldable pub row_deletion_bytes : Bases → Deletion → List ℕ
row_deletion_bytes b d = pick (eqb d.deleted 1) (deletion_bytes b d) []

-- "lowest bit the first column, 1 for missing"
unfoldable pub missing_of : List (Option CellView) → ℕ
missing_of [] = 0
missing_of (none ∷ cs) = 1 + 2 * missing_of cs
missing_of (some c ∷ cs) = 2 * missing_of cs

unfoldable pub missing_bytes : ℕ → List ℕ
missing_bytes m = pick (eqb m 0) [] (shortest m)

-- the cells of the columns whose widths are ws
unfoldable pub cells_bytes : Bases → Times → List ℕ → List (Option CellView) → List ℕ
cells_bytes b row [] cs = []
cells_bytes b row (w ∷ ws) [] = []
cells_bytes b row (w ∷ ws) (none ∷ cs) = cells_bytes b row ws cs
cells_bytes b row (w ∷ ws) (some c ∷ cs) = cell_form b row w c ++ cells_bytes b row ws cs

-- the flags; fixed is 1 for a static row
unfoldable pub row_flags : ℕ → Times → Deletion → ℕ → ℕ
row_flags fixed row d m = 4 * row.timed + 8 * row.expires + 16 * d.deleted + 32 * pick (eqb m 0) 1 0 + 128 * fixed

abbrev pub flags_of : ℕ → RowView → ℕ
flags_of fixed r = row_flags fixed r.times r.deletion (missing_of r.cells)

-- what the body holds behind its sizes
unfoldable pub content_bytes : Bases → List ℕ → RowView → List ℕ
content_bytes b ws r =
    liveness_bytes b r.times ++ (row_deletion_bytes b r.deletion ++ (missing_bytes (missing_of r.cells) ++ cells_bytes b r.times ws r.cells))

-- "Body size counts the bytes after its own varint, the previous-size varint included"
unfoldable pub sized_bytes : ℕ → List ℕ → List ℕ
sized_bytes previous w = shortest (length (shortest previous ++ w)) ++ (shortest previous ++ w)

-- "the writer puts 0 for a static row": ws are the static columns' widths
unfoldable pub static_bytes : Bases → List ℕ → RowView → List ℕ
static_bytes b ws r = (flags_of 1 r ∷ []) ++ ((1 ∷ []) ++ sized_bytes 0 (content_bytes b ws r))

-- a row with its clustering values vs, in a table whose clustering columns have the widths cs and whose regular ones ws
unfoldable pub row_bytes : Bases → List ℕ → List ℕ → ℕ → List (List ℕ) → RowView → List ℕ
row_bytes b cs ws previous vs r = (flags_of 0 r ∷ []) ++ (prefix_bytes cs vs ++ sized_bytes previous (content_bytes b ws r))
