use Rattle.write_number.proofs.Writing.{writing}
use Rattle.write_sizes.proofs.sizes.put_body_size.Goals as goal

pub put_in-requires : goal.put_in-requires
put_in-requires c = search writing depth 12

pub returns : goal.returns
returns c = search writing depth 12
