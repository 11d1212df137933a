-- Clustering values in the writer's form: the header ("in clustering the header's bit" for empty values), and those that are not empty.
-- Assumes nothing.
use Rattle.std.specs.Prelude.{ℕ, ◌+◌, ◌*◌, List, [], ◌∷◌, ◌++◌, eqb, length}
use Rattle.common.specs.Choose.{pick}
use Rattle.number_varint.specs.Varints.{shortest}
use Rattle.write_form.specs.Cells.{field_bytes}

-- "two bits a column from the lowest, empty then null"
unfoldable pub header_of : List (List ℕ) → ℕ
header_of [] = 0
header_of (v ∷ vs) = pick (eqb (length v) 0) 1 0 + 4 * header_of vs

-- "Clustering header (none for no columns)"
unfoldable pub header_bytes : List (List ℕ) → List ℕ
header_bytes vs = pick (eqb (length vs) 0) [] (shortest (header_of vs))

unfoldable pub clustering_bytes : ℕ → List ℕ → List ℕ
clustering_bytes w v = pick (eqb (length v) 0) [] (field_bytes w v)

-- the values of the columns whose widths are ws
unfoldable pub values_bytes : List ℕ → List (List ℕ) → List ℕ
values_bytes [] vs = []
values_bytes (w ∷ ws) [] = []
values_bytes (w ∷ ws) (v ∷ vs) = clustering_bytes w v ++ values_bytes ws vs

unfoldable pub prefix_bytes : List ℕ → List (List ℕ) → List ℕ
prefix_bytes ws vs = header_bytes vs ++ values_bytes ws vs
