-- When bits are a NaN's. Assumes nothing.
use mathlib.Core.Path.{◌≡◌, refl, ◌∙◌}
use mathlib.Core.Bool.{true, false, not}
use Prim.Native.Nat.{ℕ, ◌%◌, ◌≤◌, ◌<◌}
use borrow.Author.Tests.{lt-ltb, le-ltb}
use lib.Dec.{T}
use lib.IntN.{pos}
use lib.Ieee.{nan_bits, binary64, of_bits, of_int}
use lib.Ieee.Bits.{nan_bits_above}
use Rattle.stats_validation.specs.Validation.{zero64, one64}

pub nan_yes : (bits : ℕ) → 0x7FF0_0000_0000_0000 < bits % 0x8000_0000_0000_0000 → nan_bits binary64 bits ≡ true
nan_yes bits h = nan_bits_above binary64 bits ∙ lt-ltb 0x7FF0_0000_0000_0000 (bits % 0x8000_0000_0000_0000) h

pub nan_no : (bits : ℕ) → bits % 0x8000_0000_0000_0000 ≤ 0x7FF0_0000_0000_0000 → nan_bits binary64 bits ≡ false
nan_no bits h = nan_bits_above binary64 bits ∙ le-ltb 0x7FF0_0000_0000_0000 (bits % 0x8000_0000_0000_0000) h

pub not_nan : (bits : ℕ) → bits % 0x8000_0000_0000_0000 ≤ 0x7FF0_0000_0000_0000 → T (not (nan_bits binary64 bits))
not_nan bits h = rw (nan_no bits h) tt

-- zero64 and one64 are the numbers 0 and 1
pub constants : (zero64 ≡ of_int binary64 (pos 0)) × (one64 ≡ of_int binary64 (pos 1))
unfolding of_bits of_int
constants = (refl, refl)
