use native.Mathlib.Omega.{arith}
use Rattle.number_fixed.proofs.BigEndian.{byte_shift, byte_none}
use Rattle.number_fixed.proofs.byte_of.Goals as goal

pub returns-then-k-lt8 : goal.returns-then-k-lt8
returns-then-k-lt8 c = byte_shift _ _

pub returns-else-k-lt8 : goal.returns-else-k-lt8
returns-else-k-lt8 c = byte_none _ _ c.ranges.x.fits (omega arith)
