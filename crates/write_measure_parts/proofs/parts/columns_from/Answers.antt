use Rattle.write_measure_parts.proofs.Cells.{columns}
use Rattle.write_measure_parts.proofs.parts.columns_from.Goals as goal

pub overflow_sub-result : goal.overflow_sub-result
overflow_sub-result c = search columns

pub returns : goal.returns
returns c = search columns
