use Rattle.write_number.proofs.Writing.{writing}
use Rattle.write_row_parts.specs.Parts.{head_form}
use borrow.Author.Rules.{rules}
use Rattle.write_row_parts.proofs.heads.head_len.Goals as goal

pub returns : goal.returns
unfolding head_form
returns c = search (writing, rules) depth 12
