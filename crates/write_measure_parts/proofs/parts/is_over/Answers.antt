use Rattle.write_measure_parts.proofs.Skips.{single}
use Rattle.common.proofs.Choose.{cases}
use Rattle.write_measure_parts.specs.Lengths.{is_over}
use Rattle.write_measure_parts.proofs.parts.is_over.Goals as goal

pub returns-then-whole : goal.returns-then-whole
unfolding is_over
returns-then-whole c = search (single, cases) depth 12

pub returns-then-byte_or_zero-eq5 : goal.returns-then-byte_or_zero-eq5
unfolding is_over
returns-then-byte_or_zero-eq5 c = search (single, cases) depth 12

pub returns : goal.returns
unfolding is_over
returns c = search (single, cases) depth 12
