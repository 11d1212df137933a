-- Where the columns of a state that is not refused stand: in the schema. Assumes nothing.
use mathlib.Core.Path.{◌≡◌, refl, sym, ◌∙◌}
use mathlib.Core.Bool.{Bool, true, false}
use Prim.Native.Nat.{ℕ, zero, suc, ◌+◌, ◌-◌, ◌*◌, ◌/◌, ◌%◌, ◌^◌, ◌≤◌, ◌<◌}
use native.Mathlib.Omega.{arith}
use native.Mathlib.Nat.{pow-suc}
use borrow.Author.Tests.{ltb-false, leb-false, eqb-true}
use lib.Pow.{shr_lt, pow_pos}
use lib.Count.{count_trailing_zeros, under, trailing_le}
use Rattle.common.specs.Choose.{pick, bind}
use Rattle.data_row.specs.Bodies.{columns}
use Rattle.schema_check.specs.declared.records.Counts.{Counts}
use Rattle.data_walk.specs.Cursors.{bad_column, bad_values, bad_prefix, bad_cells}
use Rattle.data_walk.specs.declared.cursors.Cursor.{Cursor}

-- ---- tests that did not refuse
either_left : (t y : Bool) → pick t true y ≡ false → t ≡ false
unfolding pick
either_left true y e = e
either_left false y e = refl

either_right : (t y : Bool) → pick t true y ≡ false → y ≡ false
unfolding pick
either_right true y e = cc
either_right false y e = e

both_left : (t y : Bool) → pick t y true ≡ false → t ≡ true
unfolding pick
both_left true y e = refl
both_left false y e = sym e

both_right : (t y : Bool) → pick t y true ≡ false → y ≡ false
unfolding pick
both_right true y e = e
both_right false y e = cc

column_in : (column count header : ℕ) → bad_column column count header ≡ false → column < count
unfolding bad_column
column_in column count header e = leb-false count column (either_left _ _ e)

module _ (k : Counts) (len : ℕ) (x : Cursor) where
  values_in : bad_values k len x ≡ false → x.hand.column < k.clustering
  unfolding bad_values bind
  values_in e =
      let a = either_right _ _ (either_right _ _ e) in
      let h : x.hand.column < x.hand.count = column_in _ _ _ (either_right _ _ (both_right _ _ a)) in
      let i : x.hand.count ≡ k.clustering = eqb-true _ _ (both_left _ _ a) in
      omega arith

  prefix_in : bad_prefix k len x ≡ false → x.hand.column < k.clustering
  unfolding bad_prefix
  prefix_in e =
      let a = either_right _ _ e in
      let h : x.hand.column < x.hand.count = column_in _ _ _ (either_right _ _ a) in
      let i : x.hand.count ≤ k.clustering = ltb-false _ _ (either_left _ _ a) in
      omega arith

  module _ (l column : ℕ) (r : Bool) where
    pub values_width : r ≡ bad_values k len x → r ≡ false → column ≡ x.hand.column → 16 + 16 * k.clustering ≤ l → 16 * column + 19 < l
    values_width d e f h = let i = values_in (sym d ∙ e) in omega arith

    pub values_below : r ≡ bad_values k len x → r ≡ false → column ≡ x.hand.column → k.clustering ≤ 32 → column < 32
    values_below d e f h = let i = values_in (sym d ∙ e) in omega arith

    pub prefix_width : r ≡ bad_prefix k len x → r ≡ false → column ≡ x.hand.column → 16 + 16 * k.clustering ≤ l → 16 * column + 19 < l
    prefix_width d e f h = let i = prefix_in (sym d ∙ e) in omega arith

    pub prefix_below : r ≡ bad_prefix k len x → r ≡ false → column ≡ x.hand.column → k.clustering ≤ 32 → column < 32
    prefix_below d e f h = let i = prefix_in (sym d ∙ e) in omega arith

module _ (n len : ℕ) (x : Cursor) (r : Bool) where
  pub cells_column : (column : ℕ) → r ≡ bad_cells n len x → r ≡ false → column ≡ x.hand.column → column ≤ n
  unfolding bad_cells
  cells_column column d e f = rw f (ltb-false _ _ (either_left _ _ (either_right _ _ (sym d ∙ e))))

  pub cells_present : (present : ℕ) → r ≡ bad_cells n len x → r ≡ false → present ≡ x.hand.present → present ≤ columns n
  unfolding bad_cells bind
  cells_present present d e f = rw f (ltb-false _ _ (either_right _ _ (either_right _ _ (sym d ∙ e))))

-- ---- the next column that has a cell
-- a number below 2^m that is not 0 has its lowest digit below m
trailing_below : (d m q : ℕ) → m ≤ d → 0 < q → q < 2 ^ m → count_trailing_zeros d q < m
unfolding count_trailing_zeros
trailing_below d zero q l h k = absurd (omega arith)
trailing_below zero (suc m) q l h k = absurd (omega arith)
trailing_below (suc d) (suc m) q l h k = go (q % 2) refl (λ e. trailing_below d m (q / 2) (omega arith) (omega arith) (small (pow-suc 2 m)))
  where
    small : 2 ^ suc m ≡ 2 ^ m * 2 → q / 2 < 2 ^ m
    small e = omega arith

    go : (r : ℕ) → q % 2 ≡ r → (q % 2 ≡ 0 → count_trailing_zeros d (q / 2) < m) → under r (count_trailing_zeros d (q / 2)) < suc m
    go zero e ih = let i = ih e in omega arith
    go (suc r) e ih = omega arith

module _ (n column present : ℕ) (h : n ≤ 63) (i : column ≤ n) (j : present ≤ columns n) (z : present / 2 ^ column ≡ 0 → ⊥) where
  left_below : present / 2 ^ column < 2 ^ (n - column)
  unfolding columns
  left_below =
      let e : n - column + column ≡ n = omega arith in
      let p : 0 < 2 ^ n = pow_pos n in
      shr_lt (n - column) column (rw e (omega arith))

  pub next_in : column + count_trailing_zeros 64 (present / 2 ^ column) < n
  next_in =
      let t : count_trailing_zeros 64 (present / 2 ^ column) < n - column = trailing_below 64 (n - column) (present / 2 ^ column) (omega arith) (pos (present / 2 ^ column) z) left_below in
      omega arith
    where
      pos : (q : ℕ) → (q ≡ 0 → ⊥) → 0 < q
      pos zero f = absurd (f refl)
      pos (suc q) f = omega arith

  pub next_width : (l base : ℕ) → base + 16 * n ≤ l → base + 16 * (column + count_trailing_zeros 64 (present / 2 ^ column)) + 3 < l
  next_width l base g = let t = next_in in omega arith

  pub next_below : column + count_trailing_zeros 64 (present / 2 ^ column) < 64
  next_below = let t = next_in in omega arith

pub count_fits : (q : ℕ) → count_trailing_zeros 64 q < 18446744073709551616
count_fits q = let h = trailing_le 64 q in omega arith

pub sum_fits : (n column q : ℕ) → column ≤ n → n ≤ 63 → column + count_trailing_zeros 64 q < 18446744073709551616
sum_fits n column q i h = let j = trailing_le 64 q in omega arith
