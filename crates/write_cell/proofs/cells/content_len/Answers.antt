use Rattle.common.proofs.Choose.{cases}
use Rattle.write_cell.specs.Sizes.{content_size}
use Rattle.write_number.proofs.Writing.{writing}
use borrow.Author.Rules.{rules}
use Rattle.write_cell.proofs.cells.content_len.Goals as goal

pub returns-then-no_value-eq1 : goal.returns-then-no_value-eq1
unfolding content_size
returns-then-no_value-eq1 c = search (writing, cases, rules) depth 12

pub returns : goal.returns
unfolding content_size
returns c = search (writing, cases, rules) depth 12
