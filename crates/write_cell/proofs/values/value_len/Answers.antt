use Rattle.common.proofs.Choose.{cases}
use Rattle.write_cell.specs.Sizes.{value_size}
use borrow.Author.Rules.{rules}
use Rattle.write_cell.proofs.values.value_len.Goals as goal

pub returns-then-len-eq0 : goal.returns-then-len-eq0
unfolding value_size
returns-then-len-eq0 c = search (cases, rules) depth 12

pub returns : goal.returns
unfolding value_size
returns c = search (cases, rules) depth 12
