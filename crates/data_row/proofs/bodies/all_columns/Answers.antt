use Rattle.data_row.proofs.Bits.{columns_are}
use Rattle.data_row.proofs.bodies.all_columns.Goals as goal

pub returns : goal.returns
returns c = search columns_are
