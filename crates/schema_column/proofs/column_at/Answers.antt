use Rattle.schema_column.proofs.Fields.{column_is}
use borrow.Author.Rules.{rules}
use Rattle.schema_column.proofs.column_at.Goals as goal

pub returns : goal.returns
returns c = search (column_is, rules)
