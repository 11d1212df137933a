-- Signed 64-bit numbers as the library keeps them: plus 2^63, so that their order is the numbers' order. Assumes nothing.
use Rattle.std.specs.Prelude.{ℕ, ◌+◌, ◌%◌, ◌^◌}

-- the signed number of the 64 bits x, plus 2^63; and the bits of the signed number that is kept as x
unfoldable pub biased : ℕ → ℕ
biased x = (x + 2 ^ 63) % 2 ^ 64
