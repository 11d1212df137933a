use Rattle.write_number.proofs.Writing.{writing}
use Rattle.write_row_parts.specs.Parts.{sizes_form}
use borrow.Author.Rules.{rules}
use Rattle.write_sizes.proofs.sizes.sizes_len.Goals as goal

pub returns : goal.returns
unfolding sizes_form
returns c = search (writing, rules) depth 12
