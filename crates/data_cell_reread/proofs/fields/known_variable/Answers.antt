use Rattle.data_cell_reread.proofs.KnownFields.{fields}
use borrow.Author.Rules.{rules}
use Rattle.data_cell_reread.proofs.fields.known_variable.Goals as goal

pub known-announced-requires : goal.known-announced-requires
known-announced-requires c = search (fields, rules) depth 12

pub returns-then-announced-eq0 : goal.returns-then-announced-eq0
returns-then-announced-eq0 c = search (fields, rules) depth 12

pub overflow_add-result : goal.overflow_add-result
overflow_add-result c = search (fields, rules) depth 12

pub returns : goal.returns
returns c = search (fields, rules) depth 12
