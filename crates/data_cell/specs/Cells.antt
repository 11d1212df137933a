-- "Cell flags and fields as in 002": flags 01 tombstone, 02 expiring, 04 empty value, 08 the row's timestamp, 10 the row's TTL and expiry;
-- then timestamp, local deletion time, TTL and value, each where the flags leave it. Assumes nothing.
use Rattle.std.specs.Prelude.{ℕ, ◌/◌, ◌%◌, Bool, true, ltb, eqb}
use Rattle.common.specs.Choose.{pick}
use Rattle.common.specs.Got.{got, bad, on, Reader, ◌>>=◌, ret, when}
use Rattle.common.specs.declared.refusal.Fault.TheVariants.{BadFlags}
use Rattle.data_field.specs.Fields.{span, byte_at, timestamp_at, local_at, ttl_at, value_at}
use Rattle.common.specs.declared.times.Bases.{Bases}
use Rattle.data_field.specs.declared.fields.Span.{Span}
use Rattle.data_cell.specs.declared.cells.Times.{Times}
use Rattle.data_cell.specs.declared.cells.Cell.{Cell}

-- kind 0 a value, 1 an expiring one, 2 a tombstone
abbrev pub cell : ℕ → ℕ → ℕ → ℕ → Span → Cell
cell kind timestamp local ttl value = record { kind = kind; timestamp = timestamp; local = local; ttl = ttl; value = value }

-- "Refused: bits above 1F; 01 with 02; 01 without 04; 08 without row timestamp; 10 without row TTL or on a cell not expiring."
unfoldable pub bad_flags : ℕ → ℕ → ℕ → Bool
bad_flags timed expires f =
    pick (ltb 31 f) true
    (pick (eqb (f % 4) 3) true
    (pick (eqb (f % 8) 1) true
    (pick (ltb timed (f / 8 % 2)) true
    (pick (ltb expires (f / 16 % 2)) true
    (ltb (f / 2 % 2) (f / 16 % 2))))))

-- the flags: 4 at them
unfoldable pub flags_at : Times → Reader ℕ
flags_at row s at end = on (byte_at s at end) (λ f n. pick (bad_flags row.timed row.expires f) (bad BadFlags at) (got f n))

-- the value, last: none with flag 04
unfoldable pub last_at : ℕ → ℕ → ℕ → ℕ → ℕ → ℕ → Reader Cell
last_at w f kind timestamp local ttl =
    when (eqb (f / 4 % 2) 1)
    (ret (cell kind timestamp local ttl (span 0 0)))
    (value_at w >>= (λ v. ret (cell kind timestamp local ttl v)))

-- what follows the timestamp of an expiring cell: the row's expiry with flag 10
unfoldable pub expiring_at : Bases → Times → ℕ → ℕ → ℕ → Reader Cell
expiring_at b row w f timestamp =
    when (eqb (f / 16 % 2) 1)
    (last_at w f 1 timestamp row.local row.ttl)
    (local_at b >>= (λ x. ttl_at b >>= (λ y. last_at w f 1 timestamp x y)))

-- what follows the timestamp: a tombstone has no value
unfoldable pub content_at : Bases → Times → ℕ → ℕ → ℕ → Reader Cell
content_at b row w f timestamp =
    when (eqb (f % 2) 1)
    (local_at b >>= (λ x. ret (cell 2 timestamp x 0 (span 0 0))))
    (when (eqb (f / 2 % 2) 1)
    (expiring_at b row w f timestamp)
    (last_at w f 0 timestamp 0 0))

-- what follows the flags: the row's timestamp with flag 08
unfoldable pub timed_at : Bases → Times → ℕ → ℕ → Reader Cell
timed_at b row w f =
    when (eqb (f / 8 % 2) 1)
    (content_at b row w f row.timestamp)
    (timestamp_at b >>= (λ t. content_at b row w f t))

-- the cell of a column of width w, in a row of these times
unfoldable pub cell_at : Bases → Times → ℕ → Reader Cell
cell_at b row w = flags_at row >>= (λ f. timed_at b row w f)

-- ---- the same in parts, as the code reads them
-- the timestamp: the row's with flag 08
unfoldable pub time_at : Bases → Times → ℕ → Reader ℕ
time_at b row f = when (eqb (f / 8 % 2) 1) (ret row.timestamp) (timestamp_at b)

-- kind, local deletion time and TTL of a cell that is no tombstone; an expiry of its own
unfoldable pub own_at : Bases → Reader (ℕ × ℕ × ℕ)
own_at b = local_at b >>= (λ x. ttl_at b >>= (λ y. ret (1, x, y)))

unfoldable pub lasting_at : Bases → Times → ℕ → Reader (ℕ × ℕ × ℕ)
lasting_at b row f =
    when (eqb (f / 2 % 2) 1)
    (when (eqb (f / 16 % 2) 1) (ret (1, row.local, row.ttl)) (own_at b))
    (ret (0, 0, 0))
