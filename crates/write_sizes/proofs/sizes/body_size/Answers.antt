use Rattle.write_row_parts.specs.Parts.{body_size}
use Rattle.write_sizes.proofs.sizes.body_size.Goals as goal

pub returns : goal.returns
unfolding body_size
returns c = cc
