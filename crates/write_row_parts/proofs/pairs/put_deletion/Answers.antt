use Rattle.write_form.specs.Rows.{deletion_bytes}
use borrow.Author.Rules.{rules}
use Rattle.write_row_parts.proofs.pairs.put_deletion.Goals as goal

pub put_pair-requires : goal.put_pair-requires
unfolding deletion_bytes
put_pair-requires c = search rules

pub returns : goal.returns
unfolding deletion_bytes
returns c = search rules
