use mathlib.Core.Path.{◌≡◌}
use native.Mathlib.Omega.{arith}
use native.Mathlib.Nat.{div-le_self}
use Rattle.number_varint.proofs.Shortest.{first_lt, first_eq, extra_le}
use Rattle.number_varint.proofs.first_byte.Goals as goal

pub overflow_sub-result : goal.overflow_sub-result
overflow_sub-result c = div-le_self 256 _

pub overflow_add-result : goal.overflow_add-result
overflow_add-result c = omega (arith, first_eq c.before.args.x c.before.args.n (omega arith), first_lt _ _ c.before.ranges.x.fits c.before.requires)

pub overflow_cast-result : goal.overflow_cast-result
overflow_cast-result c = omega (arith, first_eq c.before.args.x c.before.args.n (omega arith), first_lt _ _ c.before.ranges.x.fits c.before.requires)

pub returns-then-n-lt8 : goal.returns-then-n-lt8
returns-then-n-lt8 c = first_eq _ _ (omega arith)

pub returns-else-n-lt8 : goal.returns-else-n-lt8
returns-else-n-lt8 c = let e : c.before.args.n ≡ 8 = omega (arith, extra_le 8 c.before.args.x) in
    rw e (omega arith)
