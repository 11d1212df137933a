-- A row behind its extended byte, static or not, as the code reads it at one place. Assumes nothing.
use mathlib.Core.Path.{◌≡◌, refl, ◌∙◌}
use mathlib.Core.Bool.{Bool, true, false}
use mathlib.Core.List.{List, []}
use Prim.Native.Nat.{ℕ, ◌+◌, ◌*◌, ◌≤◌}
use native.Mathlib.Omega.{arith}
use lib.Dec.{eqb}
use Rattle.common.specs.Choose.{pick}
use Rattle.common.specs.Got.{Got}
use Rattle.common.specs.declared.times.Bases.{Bases}
use Rattle.data_clustering.specs.Prefixes.{widths_at}
use Rattle.data_row.specs.Rows.{rest_at, clustering_in, cells_in, static_in}
use Rattle.data_row.specs.declared.rows.Row.{Row}

most : (t : Bool) (a b m : ℕ) → a ≤ m → b ≤ m → pick t a b ≤ m
unfolding pick
most true a b m h k = h
most false a b m h k = k

pub clustering_inside : (x count v n : ℕ) → v ≡ clustering_in x count → 16 + 16 * count ≤ n → 16 + 16 * v ≤ n
unfolding clustering_in
clustering_inside x count v n e h = omega (arith, most (eqb x 1) 0 count count (omega arith) (omega arith))

pub cells_few : (x statics regulars v : ℕ) → v ≡ cells_in x statics regulars → statics ≤ 63 → regulars ≤ 63 → v ≤ 63
unfolding cells_in
cells_few x statics regulars v e h k = omega (arith, most (eqb x 1) statics regulars 63 h k)

module _ (b : Bases) (c : List ℕ) (count statics regulars start f : ℕ) (s : List ℕ) (at end : ℕ) where
  picked : (t : Bool) → rest_at b (widths_at c 16 (pick t 0 count)) (pick t statics regulars) start f (pick t 1 0) s at end
      ≡ pick t (rest_at b [] statics start f 1 s at end) (rest_at b (widths_at c 16 count) regulars start f 0 s at end)
  unfolding pick widths_at
  picked true = refl
  picked false = refl

  pub rest_is : (q : Got Row) (x v k y : ℕ) → v ≡ clustering_in x count → k ≡ cells_in x statics regulars → y ≡ static_in x
      → q ≡ rest_at b (widths_at c 16 v) k start f y s at end
      → q ≡ pick (eqb x 1) (rest_at b [] statics start f 1 s at end) (rest_at b (widths_at c 16 count) regulars start f 0 s at end)
  unfolding clustering_in cells_in static_in
  rest_is q x v k y e g h i = (rw (e, g, h) at i) ∙ picked (eqb x 1)

pub ruleset parts = (clustering_inside, cells_few, rest_is)
