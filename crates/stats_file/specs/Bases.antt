-- "The header's three varints give the bases: timestamp 1442880000000000 plus the varint, modulo 2^64 and signed; local deletion time
-- 1442880000 plus the varint, modulo 2^32 and signed, 0 to 2147483647; TTL the varint, at most 2147483647." Assumes nothing.
use Rattle.std.specs.Prelude.{ℕ, ◌+◌, ◌%◌, ◌^◌, nat_lt}
use Rattle.common.specs.Choose.{pick, bind}
use Rattle.common.specs.Got.{got, bad, on, Reader, ◌>>=◌, ret}
use Rattle.common.specs.Times.{biased}
use Rattle.number_varint.specs.Varints.{varint_at}
use Rattle.common.specs.declared.refusal.Fault.TheVariants.{OutOfRange}
use Rattle.common.specs.declared.times.Bases.{Bases}

unfoldable pub timestamp_at : Reader ℕ
timestamp_at s at end = on (varint_at s at end) (λ v n. got (biased ((1442880000000000 + v) % 2 ^ 64)) n)

-- modulo 2^32
unfoldable pub local_of : ℕ → ℕ
local_of v = (1442880000 + v) % 2 ^ 32

-- a sum above 2147483647 is negative as a signed number
unfoldable pub local_at : Reader ℕ
local_at s at end =
    on (varint_at s at end) (λ v n.
    bind (local_of v) (λ local.
    pick (nat_lt 2147483647 local) (bad OutOfRange at)
    (got local n)))

unfoldable pub ttl_at : Reader ℕ
ttl_at s at end =
    on (varint_at s at end) (λ v n.
    pick (nat_lt 2147483647 v) (bad OutOfRange at)
    (got v n))

abbrev pub bases_of : ℕ → ℕ → ℕ → Bases
bases_of t l d = record { timestamp = t; local = l; ttl = d }

unfoldable pub bases_at : Reader Bases
bases_at = timestamp_at >>= (λ t. local_at >>= (λ l. ttl_at >>= (λ d. ret (bases_of t l d))))
