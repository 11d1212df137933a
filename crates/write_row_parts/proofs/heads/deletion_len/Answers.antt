use Rattle.common.proofs.Choose.{cases}
use Rattle.write_number.proofs.Writing.{writing}
use Rattle.write_form.specs.Rows.{row_deletion_bytes}
use borrow.Author.Rules.{rules}
use Rattle.write_row_parts.proofs.heads.deletion_len.Goals as goal

pub returns-then-deletion-eq1 : goal.returns-then-deletion-eq1
unfolding row_deletion_bytes
returns-then-deletion-eq1 c = search (writing, cases, rules) depth 12

pub returns : goal.returns
unfolding row_deletion_bytes
returns c = search (writing, cases, rules) depth 12
