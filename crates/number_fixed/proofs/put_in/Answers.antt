use Rattle.number_fixed.proofs.Swaps.{widths}
use borrow.Author.Rules.{rules}
use Rattle.number_fixed.proofs.put_in.Goals as goal

pub put_low-requires : goal.put_low-requires
put_low-requires c = search (widths, rules)

pub returns-then-n-eq4 : goal.returns-then-n-eq4
returns-then-n-eq4 c = search (widths, rules)
