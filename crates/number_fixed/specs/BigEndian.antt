-- "Fixed numbers are big-endian": a number of a width in bytes, as it is read and as it is written. Assumes nothing.
use Rattle.std.specs.Prelude.{ℕ, zero, suc, ◌+◌, ◌-◌, ◌*◌, ◌/◌, ◌%◌, ◌^◌, List, [], ◌∷◌, length, get_or, ltb}
use Rattle.common.specs.Choose.{pick}
use Rattle.common.specs.Got.{Reader, got, bad}
use Rattle.common.specs.declared.refusal.Fault.TheVariants.{PastEnd, OutOfRange}

-- the number spelled by acc and then the n bytes from place at on, highest first
unfoldable pub big_endian : ℕ → List ℕ → ℕ → ℕ → ℕ
big_endian acc s at zero = acc
big_endian acc s at (suc n) = big_endian acc s at n * 256 + get_or s (at + n) 0

-- the n lowest bytes of x, highest first
unfoldable pub bytes_of : ℕ → ℕ → List ℕ
bytes_of x zero = []
bytes_of x (suc n) = x / 256 ^ n % 256 ∷ bytes_of x n

-- ---- the order of bytes turned round, which the code does in one go where a number has four or eight bytes
-- the four lowest bytes of x: as a number with the lowest byte highest, and as bytes, lowest first
unfoldable pub swap_four : ℕ → ℕ
swap_four x = ((x % 256 * 256 + x / 256 % 256) * 256 + x / 65536 % 256) * 256 + x / 16777216 % 256

unfoldable pub four_of : ℕ → List ℕ
four_of x = x % 256 ∷ x / 256 % 256 ∷ x / 65536 % 256 ∷ x / 16777216 % 256 ∷ []

-- the eight lowest bytes of x, likewise
unfoldable pub swap_eight : ℕ → ℕ
swap_eight x = swap_four x * 4294967296 + swap_four (x / 4294967296)

-- the number spelled by the four bytes from place at on, lowest first
unfoldable pub little_four : List ℕ → ℕ → ℕ
little_four s at = get_or s at 0 + get_or s (at + 1) 0 * 256 + get_or s (at + 2) 0 * 65536 + get_or s (at + 3) 0 * 16777216

-- ---- a number of a width
-- a number of w bytes: 2 at its first byte where it does not lie whole before end, or end is past the slice.
-- More than eight bytes spell no 64-bit number: 5
unfoldable pub fixed_at : ℕ → Reader ℕ
fixed_at w s at end =
    pick (ltb 8 w) (bad OutOfRange at)
    (pick (ltb (length s) end) (bad PastEnd at)
    (pick (ltb end at) (bad PastEnd at)
    (pick (ltb (end - at) w) (bad PastEnd at)
    (got (big_endian 0 s at w) (at + w)))))
