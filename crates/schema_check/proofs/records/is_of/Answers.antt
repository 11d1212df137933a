use Rattle.schema_check.proofs.Fields.{of_role}
use borrow.Author.Rules.{rules}
use Rattle.schema_check.proofs.records.is_of.Goals as goal

pub returns-then-is_name_at : goal.returns-then-is_name_at
returns-then-is_name_at c = search (of_role, rules)

pub returns-else-is_name_at : goal.returns-else-is_name_at
returns-else-is_name_at c = search (of_role, rules)

pub returns-else-is_kind_of : goal.returns-else-is_kind_of
returns-else-is_kind_of c = search (of_role, rules)

pub returns-else-s-at : goal.returns-else-s-at
returns-else-s-at c = search (of_role, rules)
