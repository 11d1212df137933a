use Rattle.type_name.proofs.Names.{name_none, name_some}
use borrow.Author.Rules.{rules}
use Rattle.type_name.proofs.name_at.Goals as goal

pub returns-then-to-from : goal.returns-then-to-from
returns-then-to-from c = search (name_none, name_some, rules)

pub returns : goal.returns
returns c = search (name_none, name_some, rules)
