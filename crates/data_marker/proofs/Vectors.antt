-- Markers behind a live partition of key "k", whose header ends at 15, under bases 0, 0, 0: a range from (5, 6), its ends and a boundary, and
-- the markers that are refused. Assumes nothing.
use mathlib.Core.Path.{◌≡◌, refl}
use mathlib.Core.List.{List, [], ◌∷◌}
use Prim.Native.Nat.{ℕ}
use Rattle.common.specs.Choose.{pick, bind}
use Rattle.common.specs.Got.{got, bad, on}
use Rattle.number_fixed.specs.BigEndian.{big_endian, fixed_at}
use Rattle.number_varint.specs.Varints.{leading, low, varint_at}
use Rattle.common.specs.declared.refusal.Fault.TheVariants.{PastEnd, LeftOver, BadFlags, OutOfRange, OutOfTurn}
use Rattle.data_field.specs.Fields.{byte_at, in_at, deletion_at, variable_at, value_at, deletion, live}
use Rattle.common.specs.declared.times.Bases.{Bases}
use Rattle.data_field.specs.declared.fields.Deletion.{Deletion}
use Rattle.data_clustering.specs.Prefixes.{bad_header, header_at, clustering_at, values_at, skipped, prefix_at}
use Rattle.data_clustering.specs.Sizes.{sizes_at}
use Rattle.data_marker.specs.Kinds.{marker_flags_at, kind_at, count_at}
use Rattle.data_turns.specs.Turns.{bad_kind, is_start, is_boundary, out_of_turn}
use Rattle.data_marker.specs.Markers.{marker, first_at, second_at, deletions_at, body_at, bound_at, marker_at, open_after}
use Rattle.data_turns.specs.Turns.{same_deletion}

abbrev base : Bases
base = record { timestamp = 9223372036854775808; local = 0; ttl = 0 }

-- a deletion by its signed mark, not negative, and local time
abbrev at : ℕ → Deletion
at x = deletion 1 9223372036854775813 x

-- a marker of count 0: its kind, its size, and the body behind the previous size
abbrev bytes : ℕ → ℕ → List ℕ → List ℕ
bytes kind size body = 2 ∷ kind ∷ 0 ∷ 0 ∷ size ∷ 0 ∷ body

pub vectors : (marker_at base [] live (bytes 1 3 (5 ∷ 6 ∷ [])) 0 8
    ≡ got (marker 0 1 0 (record { header = 0; values = 4 }) (record { first = at 6; second = live })) 8)
    × (marker_at base [] (at 6) (bytes 6 3 (5 ∷ 6 ∷ [])) 0 8
    ≡ got (marker 0 6 0 (record { header = 0; values = 4 }) (record { first = at 6; second = live })) 8)
    × (marker_at base [] (at 6) (bytes 2 5 (5 ∷ 6 ∷ 5 ∷ 9 ∷ [])) 0 10
    ≡ got (marker 0 2 0 (record { header = 0; values = 4 }) (record { first = at 6; second = at 9 })) 10)
    × (marker_at base [] (at 6) (bytes 6 3 (5 ∷ 7 ∷ [])) 0 8 ≡ bad OutOfTurn 6)  -- unlike the open range: at the mark
    × (marker_at base [] (at 6) (bytes 2 5 (5 ∷ 7 ∷ 0xFF ∷ 9 ∷ [])) 0 10 ≡ bad OutOfTurn 6)  -- before the start's deletion is read
    × (marker_at base [] (at 6) (bytes 6 2 (7 ∷ 6 ∷ [])) 0 8 ≡ bad PastEnd 7)  -- the local time is cut
    × (marker_at base [] live (bytes 1 4 (5 ∷ 6 ∷ 0 ∷ [])) 0 9 ≡ bad LeftOver 8)
    × (marker_at base [] live (2 ∷ 6 ∷ 0xFF ∷ 0xFF ∷ []) 0 4 ≡ bad OutOfTurn 1)  -- an end where nothing is open
    × (marker_at base [] (at 6) (2 ∷ 1 ∷ 0 ∷ 0 ∷ []) 0 4 ≡ bad OutOfTurn 1)  -- a start in an open range
    × (marker_at base [] live (2 ∷ 3 ∷ 0 ∷ 0 ∷ []) 0 4 ≡ bad BadFlags 1)
    × (marker_at base [] live (2 ∷ 8 ∷ 0 ∷ 0 ∷ []) 0 4 ≡ bad BadFlags 1)
    × (marker_at base (4 ∷ []) live (2 ∷ 1 ∷ 0 ∷ 2 ∷ []) 0 4 ≡ bad OutOfRange 2)  -- a count above the columns
    × (marker_at base (4 ∷ 4 ∷ []) live (2 ∷ 1 ∷ 0 ∷ 1 ∷ 4 ∷ []) 0 5 ≡ bad BadFlags 4)  -- a bit above the prefix
    × (open_after 2 (record { first = at 6; second = at 9 }) ≡ at 9)
    × (open_after 7 (record { first = at 6; second = live }) ≡ at 6)
unfolding pick bind varint_at big_endian fixed_at leading low on byte_at in_at deletion_at variable_at value_at bad_header header_at clustering_at values_at skipped prefix_at sizes_at bad_kind is_start is_boundary out_of_turn marker_flags_at kind_at count_at same_deletion first_at second_at deletions_at body_at bound_at marker_at open_after
vectors = (refl, refl, refl, refl, refl, refl, refl, refl, refl, refl, refl, refl, refl, refl, refl)
