use native.Mathlib.Omega.{arith}
use Rattle.type_table.specs.Table.{table}
use Rattle.type_table.proofs.Rows.{all_ends, ends_from, ends_fit, end_is}
use Rattle.type_table.proofs.end_of.Goals as goal

pub overflow_cast-result-2 : goal.overflow_cast-result-2
unfolding all_ends ends_from table
overflow_cast-result-2 c = ends_fit c.args.line (omega arith)

pub returns : goal.returns
unfolding all_ends ends_from table
returns c = end_is _ _ (omega arith)
