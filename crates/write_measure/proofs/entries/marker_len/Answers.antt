use Rattle.write_measure.proofs.Rows.{sums}
use borrow.Author.Rules.{rules}
use Rattle.write_measure.proofs.entries.marker_len.Goals as goal

pub returns : goal.returns
returns c = search (sums, rules) depth 12
