-- The marker of a varint's first byte, by tests that antt computes at each of the 256 bytes. Assumes nothing.
use mathlib.Core.Path.{◌≡◌}
use Prim.Native.Nat.{ℕ, ◌+◌, ◌-◌, ◌*◌, ◌^◌, ◌<◌, ◌≤◌}
use native.Mathlib.Omega.{arith}
use lib.Dec.{eqb, leb, ltb, eqb→eq, leb→le, ltb→lt}
use lib.Count.{count_leading_zeros}
use Rattle.number_varint.specs.Varints.{leading, low}
use Rattle.common.specs.Choose.{pick}
use Rattle.common.proofs.Finite.{below_at}

pub zeros_leading : (b : ℕ) → b < 256 → count_leading_zeros 8 (255 - b) ≡ leading 8 b
unfolding count_leading_zeros leading pick
zeros_leading b h = eqb→eq _ _ (below_at 256 (λ b. eqb (count_leading_zeros 8 (255 - b)) (leading 8 b)) tt b h)

pub leading_le : (b : ℕ) → b < 256 → leading 8 b ≤ 8
unfolding leading pick
leading_le b h = leb→le _ _ (below_at 256 (λ b. leb (leading 8 b) 8) tt b h)

-- every varint's value fits 64 bits
pub low_fits : (b : ℕ) → b < 256 → (low b + 1) * 256 ^ leading 8 b ≤ 2 ^ 64
unfolding leading low pick
low_fits b h = leb→le _ _ (below_at 256 (λ b. leb ((low b + 1) * 256 ^ leading 8 b) (2 ^ 64)) tt b h)

-- a byte below 128 is a varint by itself
pub leading_small : (b : ℕ) → b < 128 → leading 8 b ≡ 0
unfolding leading pick
leading_small b h = eqb→eq _ _ (below_at 128 (λ b. eqb (leading 8 b) 0) tt b h)

pub low_small : (b : ℕ) → b < 128 → low b ≡ b
unfolding leading low pick
low_small b h = eqb→eq _ _ (below_at 128 (λ b. eqb (low b) b) tt b h)

-- the bits after the marker
pub low_lt : (b : ℕ) → b < 256 → low b < 2 ^ (7 - leading 8 b)
unfolding leading low pick
low_lt b h = ltb→lt _ _ (below_at 256 (λ b. ltb (low b) (2 ^ (7 - leading 8 b))) tt b h)

-- a byte from 128 on has a marker
pub leading_more : (b : ℕ) → b < 256 → 128 ≤ b → 0 < leading 8 b
unfolding leading pick
leading_more b h k =
    let e : b - 128 + 128 ≡ b = omega arith in
    let p : 0 < leading 8 (b - 128 + 128) = ltb→lt _ _ (below_at 128 (λ c. ltb 0 (leading 8 (c + 128))) tt (b - 128) (omega arith)) in
    rw e at p

-- a byte is its marker and what follows it
pub marked : (b : ℕ) → b < 256 → b ≡ 256 - 2 ^ (8 - leading 8 b) + low b
unfolding leading low pick
marked b h = eqb→eq _ _ (below_at 256 (λ b. eqb b (256 - 2 ^ (8 - leading 8 b) + low b)) tt b h)
