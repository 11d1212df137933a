use Rattle.data_cell_reread.proofs.KnownFields.{fields}
use borrow.Author.Rules.{rules}
use Rattle.data_cell_reread.proofs.fields.known_value.Goals as goal

pub known_variable-requires : goal.known_variable-requires
known_variable-requires c = search (fields, rules) depth 12

pub returns-then-width-eq255 : goal.returns-then-width-eq255
returns-then-width-eq255 c = search (fields, rules) depth 12

pub overflow_add-result : goal.overflow_add-result
overflow_add-result c = search (fields, rules) depth 12

pub returns : goal.returns
returns c = search (fields, rules) depth 12
