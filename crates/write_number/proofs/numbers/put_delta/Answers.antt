use Rattle.write_number.proofs.Writing.{writing}
use Rattle.write_number.proofs.numbers.put_delta.Goals as goal

pub put_in-requires : goal.put_in-requires
put_in-requires c = search writing depth 12

pub returns : goal.returns
returns c = search writing depth 12
