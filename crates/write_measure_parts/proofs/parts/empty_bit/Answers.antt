use Rattle.write_measure_parts.proofs.Values.{bit_is, bit_none}
use borrow.Author.Tests.{ne_eqb}
use Rattle.write_measure_parts.proofs.parts.empty_bit.Goals as goal

pub returns-then-n-eq0 : goal.returns-then-n-eq0
returns-then-n-eq0 c = search (bit_is, bit_none, ne_eqb)

pub returns : goal.returns
returns c = search (bit_is, bit_none, ne_eqb)
