use Rattle.schema_check.proofs.Lines.{lines}
use borrow.Author.Rules.{rules}
use Rattle.schema_check.proofs.records.is_line_of.Goals as goal

pub returns-then-line-gt34 : goal.returns-then-line-gt34
returns-then-line-gt34 c = search (lines, rules)

pub returns-then-role-lt2 : goal.returns-then-role-lt2
returns-then-role-lt2 c = search (lines, rules)

pub returns : goal.returns
returns c = search (lines, rules)
