use Rattle.schema_column.proofs.Fields.{same_at}
use Rattle.common.proofs.Choose.{cases, told}
use Rattle.schema_column.specs.Columns.{same_column}
use Rattle.schema_check.specs.Records.{role_at, line_at, mark_at}
use borrow.Author.Rules.{rules}
use Rattle.schema_column.proofs.is_same_column.Goals as goal

pub returns-then-a-at-3 : goal.returns-then-a-at-3
returns-then-a-at-3 c = search (same_at, rules)

pub returns-then-a-at-2 : goal.returns-then-a-at-2
unfolding same_column role_at line_at mark_at
returns-then-a-at-2 c = search (told, cases, rules) depth 12

pub returns-then-a-at : goal.returns-then-a-at
unfolding same_column role_at line_at mark_at
returns-then-a-at c = search (told, cases, rules) depth 12

pub returns : goal.returns
unfolding same_column role_at line_at mark_at
returns c = search (told, cases, rules) depth 12
