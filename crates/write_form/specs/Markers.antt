-- A marker in the writer's form. Assumes nothing.
use Rattle.std.specs.Prelude.{ℕ, List, [], ◌∷◌, ◌++◌, length, take}
use Rattle.common.specs.Choose.{pick}
use Rattle.number_fixed.specs.BigEndian.{bytes_of}
use Rattle.common.specs.declared.times.Bases.{Bases}
use Rattle.data_turns.specs.Turns.{is_boundary}
use Rattle.data_marker.specs.declared.markers.Deletions.{Deletions}
use Rattle.write_form.specs.Views.{MarkerView}
use Rattle.write_form.specs.Clusterings.{prefix_bytes}
use Rattle.write_form.specs.Rows.{deletion_bytes, sized_bytes}

-- "one deletion, or end then start for 2 and 5"
unfoldable pub deletions_bytes : Bases → ℕ → Deletions → List ℕ
deletions_bytes b kind d = deletion_bytes b d.first ++ pick (is_boundary kind) (deletion_bytes b d.second) []

-- what follows flags and kind
unfoldable pub bound_bytes : Bases → List ℕ → ℕ → MarkerView → List ℕ
bound_bytes b ws previous m =
    bytes_of (length m.values) 2 ++ (prefix_bytes (take (length m.values) ws) m.values ++ sized_bytes previous (deletions_bytes b m.kind m.deletions))

-- a marker in a table whose clustering columns have the widths ws
unfoldable pub marker_bytes : Bases → List ℕ → ℕ → MarkerView → List ℕ
marker_bytes b ws previous m = (2 ∷ []) ++ ((m.kind ∷ []) ++ bound_bytes b ws previous m)
