-- Where the columns of a table stand, and how many there are, of the static ones or the regular ones. Assumes nothing.
use mathlib.Core.Path.{◌≡◌}
use mathlib.Core.Bool.{Bool, true, false}
use Prim.Native.Nat.{ℕ, ◌+◌, ◌*◌, ◌≤◌}
use native.Mathlib.Omega.{arith}
use Rattle.common.specs.Choose.{pick}
use Rattle.schema_check.specs.declared.records.Counts.{Counts}
use Rattle.call_check.specs.Tables.{Table}
use Rattle.data_walk.specs.Steps.{columns_at, columns_of}

module _ (len : ℕ) (k : Counts) (t : Table len k) where
  columns_in : (u : Bool) → columns_at u k + 16 * columns_of u k ≤ len
  unfolding columns_at columns_of pick
  columns_in true = omega (arith, t.filled)
  columns_in false = omega (arith, t.filled)

  columns_few : (u : Bool) → columns_of u k ≤ 63
  unfolding columns_of pick
  columns_few true = t.statics
  columns_few false = t.regulars

  pub table_columns_in : (u : Bool) (base x : ℕ) → base ≡ columns_at u k → x ≡ columns_of u k → base + 16 * x ≤ len
  table_columns_in u base x a e = omega (arith, columns_in u)

  pub table_columns_few : (u : Bool) (x : ℕ) → x ≡ columns_of u k → x ≤ 63
  table_columns_few u x a = omega (arith, columns_few u)

pub ruleset columns = (table_columns_in, table_columns_few)
