use Rattle.std.proofs.Common.{arith, rules}
use Rattle.common.proofs.Puts.{stores_over, stores_past, stores_fits, room_is, puts_same}
use Rattle.number_fixed.proofs.BigEndian.{length_bytes_of}
use Rattle.number_fixed.proofs.put.Goals as goal

pub returns-then-d-at : goal.returns-then-d-at
returns-then-d-at c = search (stores_over, stores_past, stores_fits, room_is, length_bytes_of, puts_same, rules)

pub returns-then-d-at-2 : goal.returns-then-d-at-2
returns-then-d-at-2 c = search (stores_over, stores_past, length_bytes_of, rules)

pub put_in-requires : goal.put_in-requires
put_in-requires c = room_is _ _ _ _ (length_bytes_of _ _) (omega arith) (omega arith)

pub returns : goal.returns
returns c = search (stores_fits, room_is, length_bytes_of, rules)
