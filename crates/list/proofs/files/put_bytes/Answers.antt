use Rattle.common.proofs.Puts.{puts_same}
use Rattle.list.proofs.Paths.{room_all, puts_all}
use borrow.Author.Rules.{rules}
use Rattle.list.proofs.files.put_bytes.Goals as goal

pub put_part-requires : goal.put_part-requires
put_part-requires c = search (room_all, puts_all, puts_same, rules)

pub returns : goal.returns
returns c = search (room_all, puts_all, puts_same, rules)
