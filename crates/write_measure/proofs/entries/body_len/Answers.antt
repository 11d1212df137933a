use Rattle.write_measure.specs.Measured.{body_length}
use Rattle.write_measure.proofs.entries.body_len.Goals as goal

pub returns : goal.returns
unfolding body_length
returns c = cc
