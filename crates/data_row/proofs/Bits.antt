-- The bits of all columns, computed at each count. Assumes nothing.
use mathlib.Core.Path.{◌≡◌}
use Prim.Native.Nat.{ℕ, ◌-◌, ◌*◌, ◌%◌, ◌^◌, ◌≤◌}
use native.Mathlib.Omega.{arith}
use lib.Dec.{eqb, leb, eqb→eq, leb→le}
use Rattle.common.proofs.Finite.{below_at}
use Rattle.data_row.specs.Bodies.{columns}

pub shifted : (k : ℕ) → k ≤ 63 → 1 ≤ 1 * 2 ^ k % 18446744073709551616
shifted k h = leb→le _ _ (below_at 64 (λ k. leb 1 (1 * 2 ^ k % 18446744073709551616)) tt k (omega arith))

pub columns_are : (k : ℕ) → k ≤ 63 → 1 * 2 ^ k % 18446744073709551616 - 1 ≡ columns k
unfolding columns
columns_are k h = eqb→eq _ _ (below_at 64 (λ k. eqb (1 * 2 ^ k % 18446744073709551616 - 1) (2 ^ k - 1)) tt k (omega arith))
