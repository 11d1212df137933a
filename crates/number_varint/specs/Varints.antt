-- "A varint's first byte has n leading one bits, 0 to 8, and n bytes follow; the bits after the marker, then the bytes, highest first,
-- are the value. Longer forms are read; the writer uses the shortest." Assumes nothing.
use Rattle.std.specs.Prelude.{ℕ, zero, suc, ◌+◌, ◌-◌, ◌/◌, ◌%◌, ◌^◌, List, ◌∷◌, length, get_or, ltb, leb}
use Rattle.common.specs.Choose.{pick, bind}
use Rattle.common.specs.Got.{Reader, got, bad}
use Rattle.number_fixed.specs.BigEndian.{big_endian, bytes_of}
use Rattle.common.specs.declared.refusal.Fault.TheVariants.{PastEnd}

-- how many one bits lead the k bits of b
unfoldable pub leading : ℕ → ℕ → ℕ
leading zero b = 0
leading (suc k) b = pick (ltb b (2 ^ k)) 0 (suc (leading k (b - 2 ^ k)))

-- what the first byte b of a varint holds of the value: the bits after the marker
unfoldable pub low : ℕ → ℕ
low b = b % 2 ^ (7 - leading 8 b)

-- the varint at place at: 2 at its first byte where it does not lie whole before end, or end is past the slice
unfoldable pub varint_at : Reader ℕ
varint_at s at end =
    pick (ltb (length s) end) (bad PastEnd at)
    (pick (leb end at) (bad PastEnd at)
    (bind (leading 8 (get_or s at 0)) (λ n.
    pick (leb (end - at) n) (bad PastEnd at)
    (got (big_endian (low (get_or s at 0)) s (at + 1) n) (at + 1 + n)))))

-- the varint of x of which n bytes follow the first
unfoldable pub form : ℕ → ℕ → List ℕ
form n x = (256 - 2 ^ (8 - n) + x / 256 ^ n) ∷ bytes_of x n

-- how many bytes follow the first in the shortest varint of x: the least n, at most k, with x below 2 ^ (7 * n + 7)
unfoldable pub extra : ℕ → ℕ → ℕ
extra zero x = 0
extra (suc k) x = pick (ltb x 128) 0 (suc (extra k (x / 128)))

-- the shortest varint of x
unfoldable pub shortest : ℕ → List ℕ
shortest x = form (extra 8 x) x
