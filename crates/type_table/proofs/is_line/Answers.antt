use Rattle.type_table.proofs.Rows.{line_cases}
use Rattle.type_table.proofs.is_line.Goals as goal

pub returns-then-line-eq0 : goal.returns-then-line-eq0
returns-then-line-eq0 c = search line_cases

pub returns : goal.returns
returns c = search line_cases
