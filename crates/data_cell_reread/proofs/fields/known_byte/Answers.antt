use Rattle.data_cell_reread.proofs.KnownFields.{fields}
use borrow.Author.Rules.{rules}
use Rattle.data_cell_reread.proofs.fields.known_byte.Goals as goal

pub bounds-s-at : goal.bounds-s-at
bounds-s-at c = search (fields, rules) depth 12

pub overflow_add-result : goal.overflow_add-result
overflow_add-result c = search (fields, rules) depth 12

pub returns : goal.returns
returns c = search (fields, rules) depth 12
