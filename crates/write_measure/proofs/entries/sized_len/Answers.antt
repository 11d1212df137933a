use Rattle.write_measure.proofs.Rows.{sized_added}
use borrow.Author.Rules.{rules}
use Rattle.write_measure.proofs.entries.sized_len.Goals as goal

pub returns : goal.returns
returns c = search (sized_added, rules)
