use Rattle.common.proofs.Choose.{cases}
use Rattle.write_row_parts.specs.Parts.{all_there}
use borrow.Author.Rules.{rules}
use Rattle.write_sizes.proofs.sizes.all_there.Goals as goal

pub returns-then-missing-eq0 : goal.returns-then-missing-eq0
unfolding all_there
returns-then-missing-eq0 c = search (cases, rules) depth 12

pub returns : goal.returns
unfolding all_there
returns c = search (cases, rules) depth 12
