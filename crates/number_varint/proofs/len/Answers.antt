use native.Mathlib.Omega.{arith}
use Rattle.number_varint.proofs.Shortest.{extra_le, length_shortest}
use Rattle.number_varint.proofs.len.Goals as goal

pub overflow_add-result : goal.overflow_add-result
overflow_add-result c = omega (arith, extra_le 8 c.before.args.x, length_shortest c.before.args.x)

pub returns : goal.returns
returns c = omega (arith, extra_le 8 c.before.args.x, length_shortest c.before.args.x)
