use Rattle.write_number.proofs.Writing.{writing}
use Rattle.write_form.specs.Markers.{deletions_bytes}
use Rattle.write_row_parts.specs.Parts.{second_form}
use borrow.Author.Rules.{rules}
use Rattle.write_row_parts.proofs.markers.deletions_len.Goals as goal

pub returns : goal.returns
unfolding deletions_bytes second_form
returns c = search (writing, rules) depth 12
