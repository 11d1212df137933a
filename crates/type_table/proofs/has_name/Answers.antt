use Rattle.type_table.specs.Table.{table}
use Rattle.type_table.specs.Rows.{names}
use Rattle.type_table.proofs.Rows.{name_rise, name_within, name_same}
use borrow.Author.Rules.{rules}
use Rattle.type_table.proofs.has_name.Goals as goal

pub has_part-requires : goal.has_part-requires
unfolding names table
has_part-requires c = search (name_rise, name_within, rules)

pub returns : goal.returns
unfolding names table
returns c = search name_same
