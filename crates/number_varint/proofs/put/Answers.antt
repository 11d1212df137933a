use Rattle.std.proofs.Common.{sym, rules}
use Rattle.common.proofs.Puts.{stores_over, stores_past, stores_fits, room_is, puts_same}
use Rattle.number_varint.proofs.put.Goals as goal

pub returns-then-d-at : goal.returns-then-d-at
returns-then-d-at c = search (stores_over, stores_past, stores_fits, room_is, puts_same, sym, rules)

pub returns-then-d-at-2 : goal.returns-then-d-at-2
returns-then-d-at-2 c = search (stores_over, stores_past, sym, rules)

pub returns : goal.returns
returns c = search (stores_fits, room_is, sym, rules)
