-- Entry 0 of Statistics: "16-bit length, name, then the false-positive chance, a double that compares between 0 and 1, both taken";
-- "filled exactly". The name is not looked at. Assumes nothing.
use Rattle.std.specs.Prelude.{ℕ, ◌+◌, ◌-◌, ltb, Float}
use Rattle.std.specs.Float.Ieee as Ieee
use Rattle.std.specs.Float.{binary64}
use Rattle.common.specs.Choose.{pick, bind}
use Rattle.common.specs.Got.{Got, got, bad, on, Reader}
use Rattle.number_fixed.specs.BigEndian.{fixed_at}
use Rattle.common.specs.declared.refusal.Fault.TheVariants.{PastEnd, LeftOver, OutOfRange}
use Rattle.stats_validation.specs.declared.Chance.{Chance}
use Rattle.stats_validation.specs.declared.Validation.{Validation}

-- the doubles 0 and 1
abbrev pub zero64 : Float
zero64 = Ieee.of_bits binary64 0

abbrev pub one64 : Float
one64 = Ieee.of_bits binary64 0x3FF0_0000_0000_0000

-- the chance whose bits are read from place at on, up to n: a NaN compares with nothing; the bits are kept
unfoldable pub chance_of : ℕ → ℕ → ℕ → Got Chance
chance_of bits at n =
    pick (Ieee.nan_bits binary64 bits) (bad OutOfRange at)
    (bind (Ieee.of_bits binary64 bits) (λ x.
    pick (Ieee.le zero64 x)
    (pick (Ieee.le x one64) (got (record { value = x; bits = bits }) n) (bad OutOfRange at))
    (bad OutOfRange at)))

unfoldable pub chance_at : Reader Chance
chance_at s at end = on (fixed_at 8 s at end) (λ bits n. chance_of bits at n)

-- the entry's fields: where the name stands, and the chance
unfoldable pub validation_at : Reader Validation
validation_at s at end =
    on (fixed_at 2 s at end) (λ len n.
    pick (ltb (end - n) len) (bad PastEnd at)
    (on (chance_at s (n + len) end) (λ x m.
    pick (ltb m end) (bad LeftOver m)
    (got (record { name = n; len = len; chance = x }) m))))
