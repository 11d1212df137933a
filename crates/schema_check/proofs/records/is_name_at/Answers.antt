use Rattle.schema_check.proofs.Fields.{names}
use borrow.Author.Rules.{rules}
use Rattle.schema_check.proofs.records.is_name_at.Goals as goal

pub returns-then-role-lt2 : goal.returns-then-role-lt2
returns-then-role-lt2 c = search (names, rules)

pub returns-then-limit-name : goal.returns-then-limit-name
returns-then-limit-name c = search (names, rules)

pub returns : goal.returns
returns c = search (names, rules)
