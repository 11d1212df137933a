-- The fields that stand in rows, markers and cells: a byte, a time as a delta, a deletion, a value. Timestamps and marks are the signed
-- number plus 2^63, so that -2^63 is 0, the order is the numbers' and sums are exact. Assumes nothing.
use Rattle.std.specs.Prelude.{ℕ, ◌+◌, ◌-◌, ltb, leb, eqb, length, get_or}
use Rattle.common.specs.Choose.{pick}
use Rattle.common.specs.Got.{got, bad, on, Reader, ◌>>=◌, ret}
use Rattle.number_varint.specs.Varints.{varint_at}
use Rattle.common.specs.declared.refusal.Fault.TheVariants.{PastEnd, OutOfRange}
use Rattle.common.specs.declared.times.Bases.{Bases}
use Rattle.data_field.specs.declared.fields.Deletion.{Deletion}
use Rattle.data_field.specs.declared.fields.Span.{Span}

-- a part of the slice; a value or key that is empty has no place
abbrev pub span : ℕ → ℕ → Span
span start len = record { start = start; len = len }

abbrev pub deletion : ℕ → ℕ → ℕ → Deletion
deletion deleted mark local = record { deleted = deleted; mark = mark; local = local }

-- no deletion
abbrev pub live : Deletion
live = deletion 0 0 0

-- a byte: 2 at it where it is not there
unfoldable pub byte_at : Reader ℕ
byte_at s at end =
    pick (ltb (length s) end) (bad PastEnd at)
    (pick (leb end at) (bad PastEnd at)
    (got (get_or s at 0) (at + 1)))

-- "Deltas in Data add to a base exactly": the base and a varint; 5 at the varint for a sum not from lo to hi
unfoldable pub in_at : ℕ → ℕ → ℕ → Reader ℕ
in_at lo hi base s at end =
    on (varint_at s at end) (λ d n.
    pick (ltb hi (base + d)) (bad OutOfRange at)
    (pick (ltb (base + d) lo) (bad OutOfRange at)
    (got (base + d) n)))

-- "Sums .. must lie: timestamp and deletion mark -2^63+1 to 2^63-1; local deletion time 0 to 2147483646; TTL 1 to 2147483647"
abbrev pub timestamp_at : Bases → Reader ℕ
timestamp_at b = in_at 1 18446744073709551615 b.timestamp

abbrev pub local_at : Bases → Reader ℕ
local_at b = in_at 0 2147483646 b.local

abbrev pub ttl_at : Bases → Reader ℕ
ttl_at b = in_at 1 2147483647 b.ttl

-- "deletion (mark, local time)"
unfoldable pub deletion_at : Bases → Reader Deletion
deletion_at b = timestamp_at b >>= (λ t. local_at b >>= (λ x. ret (deletion 1 t x)))

-- "Variable-width values, clustering too, follow their varint length; 0 is an empty value": 2 at the length for what it announces
unfoldable pub variable_at : Reader Span
variable_at s at end =
    on (varint_at s at end) (λ len n.
    pick (eqb len 0) (got (span 0 0) n)
    (pick (ltb (end - n) len) (bad PastEnd at)
    (got (span n len) (n + len))))

-- a value of a width
abbrev pub width_at : ℕ → Reader Span
width_at w s at end =
    pick (ltb end at) (bad PastEnd at)
    (pick (ltb (end - at) w) (bad PastEnd at)
    (got (span at w) (at + w)))

-- a value of a width, or (255) after its length: 2 at its own first byte where it is cut
unfoldable pub value_at : ℕ → Reader Span
value_at w s at end = pick (eqb w 255) (variable_at s at end) (width_at w s at end)
