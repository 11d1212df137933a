use Rattle.common.proofs.Choose.{cases}
use Rattle.write_number.proofs.Writing.{writing}
use Rattle.write_form.specs.Rows.{row_expiry_bytes}
use borrow.Author.Rules.{rules}
use Rattle.write_row_parts.proofs.heads.expiry_len.Goals as goal

pub returns-then-row-eq1 : goal.returns-then-row-eq1
unfolding row_expiry_bytes
returns-then-row-eq1 c = search (writing, cases, rules) depth 12

pub returns : goal.returns
unfolding row_expiry_bytes
returns c = search (writing, cases, rules) depth 12
