use Rattle.data_cell_reread.proofs.KnownFields.{fields}
use borrow.Author.Rules.{rules}
use Rattle.data_cell_reread.proofs.fields.known_sum.Goals as goal

pub known-delta-requires : goal.known-delta-requires
known-delta-requires c = search (fields, rules) depth 12

pub overflow_add-result : goal.overflow_add-result
overflow_add-result c = search (fields, rules) depth 12

pub returns : goal.returns
returns c = search (fields, rules) depth 12
