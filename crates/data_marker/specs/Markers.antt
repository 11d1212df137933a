-- A marker, whole. Assumes nothing.
use Rattle.std.specs.Prelude.{ℕ, List, length, take}
use Rattle.common.specs.Choose.{pick}
use Rattle.common.specs.Got.{got, bad, on, Reader, ◌>>=◌, ret, when, filled}
use Rattle.common.specs.declared.refusal.Fault.TheVariants.{OutOfTurn}
use Rattle.data_field.specs.Fields.{deletion_at, live}
use Rattle.common.specs.declared.times.Bases.{Bases}
use Rattle.data_field.specs.declared.fields.Deletion.{Deletion}
use Rattle.data_clustering.specs.Prefixes.{prefix_at}
use Rattle.data_clustering.specs.Sizes.{sizes_at}
use Rattle.data_clustering.specs.declared.prefixes.Prefix.{Prefix}
use Rattle.data_turns.specs.Turns.{same_deletion}
use Rattle.data_marker.specs.Kinds.{marker_flags_at, kind_at, count_at}
use Rattle.data_turns.specs.Turns.{is_start, is_boundary}
use Rattle.data_marker.specs.declared.markers.Deletions.{Deletions}
use Rattle.data_marker.specs.declared.markers.Marker.{Marker}

abbrev pub marker : ℕ → ℕ → ℕ → Prefix → Deletions → Marker
marker start kind count prefix deletions = record { start = start; kind = kind; count = count; prefix = prefix; deletions = deletions }

-- the first deletion: "an end or boundary an open range with that same deletion"; unlike is 6 at its mark
unfoldable pub first_at : Bases → ℕ → Deletion → Reader Deletion
first_at b kind opened s at end =
    on (deletion_at b s at end) (λ d n.
    pick (is_start kind) (got d n)
    (pick (same_deletion opened d) (got d n)
    (bad OutOfTurn at)))

-- the second, of a boundary
unfoldable pub second_at : Bases → ℕ → Reader Deletion
second_at b kind = when (is_boundary kind) (deletion_at b) (ret live)

-- what the body holds behind its sizes: the deletions fill it
unfoldable pub deletions_at : Bases → ℕ → Deletion → Reader Deletions
deletions_at b kind opened = first_at b kind opened >>= (λ d. second_at b kind >>= (λ e. filled (record { first = d; second = e })))

-- the sizes, and the body
unfoldable pub body_at : Bases → ℕ → Deletion → Reader Deletions
body_at b kind opened s at end = on (sizes_at s at end) (λ stop n. deletions_at b kind opened s n stop)

-- what follows the kind, in a table whose clustering columns have the widths ws: the prefix is of the first `count` of them
unfoldable pub bound_at : Bases → List ℕ → Deletion → ℕ → ℕ → Reader Marker
bound_at b ws opened start kind s at end =
    on (count_at (length ws) s at end) (λ count n.
    on (prefix_at (take count ws) s n end) (λ p m.
    on (body_at b kind opened s m end) (λ d q.
    got (marker start kind count p d) q)))

-- a marker where the deletion of the open range is `opened`
unfoldable pub marker_at : Bases → List ℕ → Deletion → Reader Marker
marker_at b ws opened s at end =
    on (marker_flags_at s at end) (λ f n.
    on (kind_at opened.deleted s n end) (λ kind m.
    bound_at b ws opened at kind s m end))

-- the deletion of the range that is open behind a marker
unfoldable pub open_after : ℕ → Deletions → Deletion
open_after kind d = pick (is_start kind) d.first d.second
