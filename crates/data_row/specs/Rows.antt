-- A row, from its flags to its first cell. Assumes nothing.
use Rattle.std.specs.Prelude.{ℕ, List, [], eqb}
use Rattle.common.specs.Choose.{pick}
use Rattle.common.specs.Got.{got, on, Reader}
use Rattle.common.specs.declared.times.Bases.{Bases}
use Rattle.data_clustering.specs.Prefixes.{prefix_at}
use Rattle.data_clustering.specs.declared.prefixes.Prefix.{Prefix}
use Rattle.data_row.specs.Flags.{row_flags_at, extended_at}
use Rattle.data_row.specs.Bodies.{body_at}
use Rattle.data_row.specs.declared.bodies.Body.{Body}
use Rattle.data_row.specs.declared.rows.Row.{Row}

abbrev pub row : ℕ → ℕ → ℕ → Prefix → Body → Row
row start flags extended prefix body = record { start = start; flags = flags; extended = extended; prefix = prefix; body = body }

-- what follows the flags f that stand at start, and the extended byte x: the clustering of the columns whose widths are ws, and the body with
-- the cells of k columns
unfoldable pub rest_at : Bases → List ℕ → ℕ → ℕ → ℕ → ℕ → Reader Row
rest_at b ws k start f x s at end =
    on (prefix_at ws s at end) (λ p m.
    on (body_at b k f s m end) (λ y n.
    got (row start f x p y) n))

-- a row: a static one has no clustering, and the cells of static columns
unfoldable pub row_at : Bases → List ℕ → ℕ → ℕ → ℕ → Reader Row
row_at b ws statics regulars first s at end =
    on (row_flags_at s at end) (λ f n.
    on (extended_at f first statics s n end) (λ x m.
    pick (eqb x 1)
    (rest_at b [] statics at f 1 s m end)
    (rest_at b ws regulars at f 0 s m end)))

-- how many clustering columns a row with the extended byte x has, of how many columns it has cells, and its own mark: 1 for a static one
unfoldable pub clustering_in : ℕ → ℕ → ℕ
clustering_in x count = pick (eqb x 1) 0 count

unfoldable pub cells_in : ℕ → ℕ → ℕ → ℕ
cells_in x statics regulars = pick (eqb x 1) statics regulars

unfoldable pub static_in : ℕ → ℕ
static_in x = pick (eqb x 1) 1 0
