-- The parts of rows and markers that the writer stores by one call, from numbers alone. Assumes nothing.
use Rattle.std.specs.Prelude.{ℕ, ◌+◌, List, [], ◌∷◌, ◌++◌, eqb, length}
use Rattle.common.specs.Choose.{pick}
use Rattle.number_varint.specs.Varints.{shortest}
use Rattle.number_fixed.specs.BigEndian.{bytes_of}
use Rattle.common.specs.declared.times.Bases.{Bases}
use Rattle.data_field.specs.declared.fields.Deletion.{Deletion}
use Rattle.data_cell.specs.declared.cells.Times.{Times}
use Rattle.data_turns.specs.Turns.{is_boundary}
use Rattle.write_form.specs.Rows.{liveness_bytes, deletion_bytes, row_deletion_bytes, missing_bytes}

-- a row's deletion and missing columns
unfoldable pub rest_form : Bases → Deletion → ℕ → List ℕ
rest_form b d m = row_deletion_bytes b d ++ missing_bytes m

-- what stands between a row's sizes and its cells; m has a bit for each missing column
unfoldable pub head_form : Bases → Times → Deletion → ℕ → List ℕ
head_form b times d m = liveness_bytes b times ++ rest_form b d m

-- "Body size counts the bytes after its own varint, the previous-size varint included": n bytes follow both
unfoldable pub body_size : ℕ → ℕ → ℕ
body_size previous n = length (shortest previous) + n

-- body size and previous size, where n bytes follow them
unfoldable pub sizes_form : ℕ → ℕ → List ℕ
sizes_form previous n = shortest (body_size previous n) ++ shortest previous

-- "20 when no column is missing": 1 where m is 0
unfoldable pub all_there : ℕ → ℕ
all_there m = pick (eqb m 0) 1 0

-- the header h of count clustering values: "none for no columns"
unfoldable pub header_form : ℕ → ℕ → List ℕ
header_form count h = pick (eqb count 0) [] (shortest h)

-- a marker's second deletion: "end then start for 2 and 5"
unfoldable pub second_form : Bases → ℕ → Deletion → List ℕ
second_form b kind second = pick (is_boundary kind) (deletion_bytes b second) []

-- a marker's flags, its kind, and the count of its clustering values
unfoldable pub bound_form : ℕ → ℕ → List ℕ
bound_form kind count = (2 ∷ []) ++ ((kind ∷ []) ++ bytes_of count 2)
