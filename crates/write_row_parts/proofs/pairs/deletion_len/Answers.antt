use Rattle.write_form.specs.Rows.{deletion_bytes}
use borrow.Author.Rules.{rules}
use Rattle.write_row_parts.proofs.pairs.deletion_len.Goals as goal

pub returns : goal.returns
unfolding deletion_bytes
returns c = search rules
