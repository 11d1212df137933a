use Rattle.common.specs.Store.{part}
use borrow.Author.Rules.{rules}
use Rattle.type_table.proofs.has_part.Goals as goal

pub returns : goal.returns
unfolding part
returns c = search rules
