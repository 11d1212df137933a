use Rattle.schema_column.proofs.Fields.{found_at}
use Rattle.common.proofs.Choose.{cases}
use Rattle.schema_column.specs.Columns.{column_of}
use borrow.Author.Rules.{rules}
use Rattle.schema_column.proofs.column_of.Goals as goal

pub returns-then-schema-i : goal.returns-then-schema-i
unfolding column_of
returns-then-schema-i c = search (cases, rules) depth 12

pub returns : goal.returns
returns c = search (found_at, rules)
