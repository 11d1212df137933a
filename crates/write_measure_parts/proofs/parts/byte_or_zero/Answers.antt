use Rattle.write_measure_parts.proofs.Skips.{single}
use Rattle.write_measure_parts.proofs.parts.byte_or_zero.Goals as goal

pub returns : goal.returns
returns c = search single
