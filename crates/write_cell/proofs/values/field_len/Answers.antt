use Rattle.common.proofs.Choose.{cases}
use Rattle.write_cell.specs.Sizes.{field_size}
use Rattle.write_number.proofs.Writing.{writing}
use borrow.Author.Rules.{rules}
use Rattle.write_cell.proofs.values.field_len.Goals as goal

pub returns : goal.returns
unfolding field_size
returns c = search (writing, cases, rules) depth 12
