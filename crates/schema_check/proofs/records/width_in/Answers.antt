use Rattle.schema_check.proofs.Lines.{widths}
use borrow.Author.Rules.{rules}
use Rattle.schema_check.proofs.records.width_in.Goals as goal

pub returns-then-line-gt34 : goal.returns-then-line-gt34
returns-then-line-gt34 c = search (widths, rules)

pub returns : goal.returns
returns c = search (widths, rules)
