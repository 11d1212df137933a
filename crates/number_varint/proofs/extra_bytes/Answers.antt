use mathlib.Core.Path.{sym}
use native.Mathlib.Omega.{arith}
use lib.Count.{leading_le}
use mir.Facts.{Fits-le, Fits-lit}
use Rattle.number_varint.proofs.Shortest.{extra_small, zeros_most, extra_zeros}
use Rattle.number_varint.proofs.extra_bytes.Goals as goal

pub returns-then-x-lt128 : goal.returns-then-x-lt128
returns-then-x-lt128 c = sym (extra_small 8 _ (omega arith))

pub overflow_cast-zeros : goal.overflow_cast-zeros
overflow_cast-zeros c = Fits-le (leading_le 64 _) (Fits-lit tt)

pub overflow_sub-result : goal.overflow_sub-result
overflow_sub-result c = zeros_most c.before.args.x (omega arith) c.before.ranges.x.fits

pub returns : goal.returns
returns c = extra_zeros c.before.args.x (omega arith) c.before.ranges.x.fits
