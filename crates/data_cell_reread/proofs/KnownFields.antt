-- Fields that are known to stand. Assumes nothing.
use mathlib.Core.Path.{◌≡◌, refl, sym}
use mathlib.Core.Bool.{true, false}
use mathlib.Core.List.{List}
use Prim.Native.Nat.{ℕ, ◌+◌, ◌-◌, ◌^◌, ◌<◌}
use native.Mathlib.Omega.{arith}
use borrow.Author.Tests.{eq-eqb, ne_eqb, ltb-false, leb-false}
use lib.Dec.{ltb, leb, eqb}
use lib.ListN.{length, get_or}
use Rattle.common.specs.Got.{Got, got, Took}
use Rattle.common.proofs.Choose.{pick_yes, pick_no}
use Rattle.common.proofs.Gives.{gives_is}
use Rattle.common.proofs.Took.{took_first, took_then, took_yes, took_no, took_past, past, on_again}
use Rattle.number_varint.specs.Varints.{varint_at}
use Rattle.number_varint.proofs.Varints.{varint_ends}
use Rattle.data_field.specs.Fields.{span, byte_at, in_at, variable_at, value_at}

-- ---- a byte
module _ (s : List ℕ) (at end : ℕ) (t : Took (byte_at s at end)) where
  whole : ltb (length s) end ≡ false
  unfolding byte_at
  whole = past _ _ _ _ t

  before : leb end at ≡ false
  unfolding byte_at
  before = past _ _ _ _ (took_past _ _ _ _ t)

  pub byte_index : at < length s
  byte_index = omega (arith, ltb-false (length s) end whole, leb-false end at before)

  pub byte_fits : length s < 2 ^ 64 → at + 1 < 18446744073709551616
  byte_fits h = omega (arith, byte_index)

  pub byte_is : got (get_or s at 0) (at + 1) ≡ byte_at s at end
  unfolding byte_at
  byte_is = pick_no _ _ _ _ whole (pick_no _ _ _ _ before refl)

-- ---- a base and a delta
module _ (lo hi base : ℕ) (s : List ℕ) (at end : ℕ) (t : Took (in_at lo hi base s at end)) where
  pub sum_first : Took (varint_at s at end)
  unfolding in_at
  sum_first = took_first _ _ t

  module _ (v n : ℕ) (e : got v n ≡ varint_at s at end) where
    under : ltb hi (base + v) ≡ false
    unfolding in_at
    under = past _ _ _ _ (took_then _ _ v n e t)

    over : ltb (base + v) lo ≡ false
    unfolding in_at
    over = past _ _ _ _ (took_past _ _ _ _ (took_then _ _ v n e t))

    pub sum_fits : hi < 2 ^ 64 → base + v < 18446744073709551616
    sum_fits h = omega (arith, ltb-false hi (base + v) under)

    pub sum_is : got (base + v) n ≡ in_at lo hi base s at end
    unfolding in_at
    sum_is = on_again _ _ _ v n e (pick_no _ _ _ _ under (pick_no _ _ _ _ over refl))

-- ---- a value after its length
module _ (s : List ℕ) (at end : ℕ) (t : Took (variable_at s at end)) where
  pub variable_first : Took (varint_at s at end)
  unfolding variable_at
  variable_first = took_first _ _ t

  module _ (v n : ℕ) (e : got v n ≡ varint_at s at end) where
    pub variable_none : eqb v 0 ≡ true → got (span 0 0) n ≡ variable_at s at end
    unfolding variable_at
    variable_none f = on_again _ _ _ v n e (pick_yes _ _ _ _ f refl)

    module _ (f : eqb v 0 ≡ false) where
      announced : ltb (end - n) v ≡ false
      unfolding variable_at
      announced = past _ _ _ _ (took_no _ _ _ f (took_then _ _ v n e t))

      pub variable_fits : end < 2 ^ 64 → n + v < 18446744073709551616
      variable_fits h = omega (arith, ltb-false (end - n) v announced, (gives_is (varint_ends s at end) (sym e)).within)

      pub variable_is : got (span n v) (n + v) ≡ variable_at s at end
      unfolding variable_at
      variable_is = on_again _ _ _ v n e (pick_no _ _ _ _ f (pick_no _ _ _ _ announced refl))

-- ---- a value of a width
module _ (w : ℕ) (s : List ℕ) (at end : ℕ) (t : Took (value_at w s at end)) where
  pub value_variable : eqb w 255 ≡ true → Took (variable_at s at end)
  unfolding value_at
  value_variable f = took_yes _ _ _ f t

  pub value_announced : (q : Got _) → eqb w 255 ≡ true → q ≡ variable_at s at end → q ≡ value_at w s at end
  unfolding value_at
  value_announced q f e = pick_yes _ _ _ _ f e

  module _ (f : eqb w 255 ≡ false) where
    begins : ltb end at ≡ false
    unfolding value_at
    begins = past _ _ _ _ (took_no _ _ _ f t)

    inside : ltb (end - at) w ≡ false
    unfolding value_at
    inside = past _ _ _ _ (took_past _ _ _ _ (took_no _ _ _ f t))

    pub value_fits : end < 2 ^ 64 → at + w < 18446744073709551616
    value_fits h = omega (arith, ltb-false end at begins, ltb-false (end - at) w inside)

    pub value_is : got (span at w) (at + w) ≡ value_at w s at end
    unfolding value_at
    value_is = pick_no _ _ _ _ f (pick_no _ _ _ _ begins (pick_no _ _ _ _ inside refl))

pub ruleset fields = (byte_index, byte_fits, byte_is, sum_first, sum_fits, sum_is, variable_first, variable_none, variable_fits, variable_is, value_variable, value_announced, value_fits, value_is, eq-eqb, ne_eqb)
