use Rattle.common.proofs.Choose.{cases}
use Rattle.write_number.proofs.Writing.{writing}
use Rattle.write_form.specs.Rows.{missing_bytes}
use borrow.Author.Rules.{rules}
use Rattle.write_row_parts.proofs.heads.missing_len.Goals as goal

pub returns-then-missing-eq0 : goal.returns-then-missing-eq0
unfolding missing_bytes
returns-then-missing-eq0 c = search (writing, cases, rules) depth 12

pub returns : goal.returns
unfolding missing_bytes
returns c = search (writing, cases, rules) depth 12
