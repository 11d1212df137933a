use Rattle.common.proofs.Choose.{cases}
use Rattle.write_number.proofs.Writing.{writing}
use Rattle.write_row_parts.specs.Parts.{header_form}
use borrow.Author.Rules.{rules}
use Rattle.write_sizes.proofs.prefixes.header_len.Goals as goal

pub returns-then-count-eq0 : goal.returns-then-count-eq0
unfolding header_form
returns-then-count-eq0 c = search (writing, cases, rules) depth 12

pub returns : goal.returns
unfolding header_form
returns c = search (writing, cases, rules) depth 12
