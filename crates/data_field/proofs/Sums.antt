-- The tests of a base and a delta in a range, as the code makes them. Assumes nothing.
use mathlib.Core.Path.{◌≡◌}
use mathlib.Core.Bool.{true, false}
use Prim.Native.Nat.{ℕ, ◌+◌, ◌-◌, ◌≤◌, ◌<◌}
use native.Mathlib.Omega.{arith}
use borrow.Author.Tests.{lt-ltb, le-ltb}
use lib.Dec.{ltb}

pub over_base : (hi base d : ℕ) → hi < base → ltb hi (base + d) ≡ true
over_base hi base d h = lt-ltb hi (base + d) (omega arith)

pub over_left : (hi base d : ℕ) → hi - base < d → ltb hi (base + d) ≡ true
over_left hi base d h = lt-ltb hi (base + d) (omega arith)

pub not_over : (hi base d : ℕ) → base ≤ hi → d ≤ hi - base → ltb hi (base + d) ≡ false
not_over hi base d h k = le-ltb hi (base + d) (omega arith)

pub ruleset sums = (over_base, over_left, not_over)
