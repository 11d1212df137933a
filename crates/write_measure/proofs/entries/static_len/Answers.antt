use Rattle.write_measure.proofs.Rows.{sums}
use borrow.Author.Rules.{rules}
use Rattle.write_measure.proofs.entries.static_len.Goals as goal

pub sized_len-requires : goal.sized_len-requires
sized_len-requires c = search (sums, rules) depth 12

pub returns : goal.returns
returns c = search (sums, rules) depth 12
