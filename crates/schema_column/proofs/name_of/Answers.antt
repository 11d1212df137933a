use Rattle.schema_column.proofs.Fields.{name_is}
use borrow.Author.Rules.{rules}
use Rattle.schema_column.proofs.name_of.Goals as goal

pub returns : goal.returns
returns c = search (name_is, rules)
