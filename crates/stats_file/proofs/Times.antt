-- The sums of the base times. Assumes nothing.
use Rattle.std.proofs.Common.{◌≡◌, ℕ, ◌+◌, ◌%◌, ◌^◌, arith}
use Rattle.common.specs.Got.{got}
use Rattle.common.specs.Times.{biased}
use Rattle.stats_file.specs.Bases.{local_of}

pub local_sum : (v : ℕ) → (1442880000 + v % 4294967296) % 4294967296 ≡ local_of v
unfolding local_of
local_sum v = omega arith

pub biased_sum : (v a b n : ℕ) → a ≡ (1442880000000000 + v) % 2 ^ 64 → b ≡ biased a → got b n ≡ got (biased ((1442880000000000 + v) % 2 ^ 64)) n
biased_sum v a b n e f = rw (f, e)
