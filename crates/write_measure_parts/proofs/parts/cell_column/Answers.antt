use Rattle.write_measure_parts.proofs.Skips.{single}
use Rattle.common.proofs.Choose.{cases}
use Rattle.write_measure_parts.specs.Lengths.{cell_column}
use Rattle.write_measure_parts.proofs.parts.cell_column.Goals as goal

pub returns-then-byte_or_zero-eq6 : goal.returns-then-byte_or_zero-eq6
unfolding cell_column
returns-then-byte_or_zero-eq6 c = search (single, cases) depth 12

pub returns : goal.returns
unfolding cell_column
returns c = search (single, cases) depth 12
