-- "Body: liveness (timestamp, TTL, local deletion time), deletion (mark, local time), missing-column mask unless 20 is set (a varint, lowest
-- bit the first column, 1 for missing, no bit above the columns), cells in column order": up to the first cell; f are the row's flags.
-- Assumes nothing.
use Rattle.std.specs.Prelude.{ℕ, ◌-◌, ◌/◌, ◌%◌, ◌^◌, ltb, eqb}
use Rattle.common.specs.Choose.{pick, bind}
use Rattle.common.specs.Got.{got, bad, on, Reader, ◌>>=◌, ret, when}
use Rattle.number_varint.specs.Varints.{varint_at}
use Rattle.common.specs.declared.refusal.Fault.TheVariants.{BadFlags}
use Rattle.data_field.specs.Fields.{timestamp_at, local_at, ttl_at, deletion_at, live}
use Rattle.common.specs.declared.times.Bases.{Bases}
use Rattle.data_field.specs.declared.fields.Deletion.{Deletion}
use Rattle.data_cell.specs.declared.cells.Times.{Times}
use Rattle.data_clustering.specs.Sizes.{sizes_at}
use Rattle.data_row.specs.declared.bodies.Body.{Body}

abbrev pub times : ℕ → ℕ → ℕ → ℕ → ℕ → Times
times timed timestamp expires local ttl = record { timed = timed; timestamp = timestamp; expires = expires; local = local; ttl = ttl }

abbrev pub body : ℕ → Times → Deletion → ℕ → Body
body stop row d present = record { stop = stop; times = row; deletion = d; present = present }

-- the expiry that follows the timestamp t
unfoldable pub expiry_at : Bases → ℕ → Reader Times
expiry_at b t = ttl_at b >>= (λ y. local_at b >>= (λ x. ret (times 1 t 1 x y)))

unfoldable pub liveness_at : Bases → ℕ → Reader Times
liveness_at b f =
    when (eqb (f / 4 % 2) 1)
    (timestamp_at b >>= (λ t. when (eqb (f / 8 % 2) 1) (expiry_at b t) (ret (times 1 t 0 0 0))))
    (ret (times 0 0 0 0 0))

unfoldable pub row_deletion_at : Bases → ℕ → Reader Deletion
row_deletion_at b f = when (eqb (f / 16 % 2) 1) (deletion_at b) (ret live)

-- all of k columns, a bit for each
unfoldable pub columns : ℕ → ℕ
columns k = 2 ^ k - 1

-- those of k columns that have a cell: 4 at the mask
unfoldable pub present_at : ℕ → ℕ → Reader ℕ
present_at k f s at end =
    bind (columns k) (λ all.
    pick (eqb (f / 32 % 2) 1) (got all at)
    (on (varint_at s at end) (λ missing n.
    pick (ltb all missing) (bad BadFlags at)
    (got (all - missing) n))))

-- what a body that ends at stop holds before its cells, which are of k columns
unfoldable pub content_at : Bases → ℕ → ℕ → ℕ → Reader Body
content_at b k f stop =
    liveness_at b f >>= (λ row.
    row_deletion_at b f >>= (λ d.
    present_at k f >>= (λ present.
    ret (body stop row d present))))

-- the body after its sizes, read within it
unfoldable pub body_at : Bases → ℕ → ℕ → Reader Body
body_at b k f s at end = on (sizes_at s at end) (λ stop n. content_at b k f stop s n stop)
