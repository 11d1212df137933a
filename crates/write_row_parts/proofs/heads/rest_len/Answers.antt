use Rattle.write_number.proofs.Writing.{writing}
use Rattle.write_row_parts.specs.Parts.{rest_form}
use borrow.Author.Rules.{rules}
use Rattle.write_row_parts.proofs.heads.rest_len.Goals as goal

pub returns : goal.returns
unfolding rest_form
returns c = search (writing, rules) depth 12
