use Rattle.write_form.specs.Rows.{row_flags}
use Rattle.write_row_parts.specs.Parts.{all_there}
use Rattle.write_sizes.proofs.sizes.row_flags.Goals as goal

pub returns : goal.returns
unfolding row_flags all_there
returns c = cc
