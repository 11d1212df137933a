use Rattle.write_measure.proofs.Rows.{sums}
use borrow.Author.Rules.{rules}
use Rattle.write_measure.proofs.entries.row_len.Goals as goal

pub sized_len-body-requires : goal.sized_len-body-requires
sized_len-body-requires c = search (sums, rules) depth 12

pub returns : goal.returns
returns c = search (sums, rules) depth 12
