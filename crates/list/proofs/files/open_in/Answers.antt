use Rattle.list.proofs.Paths.{room_path}
use Rattle.common.proofs.Puts.{puts_same}
use borrow.Author.Rules.{rules}
use Rattle.list.proofs.files.open_in.Goals as goal

pub put_path-n-requires : goal.put_path-n-requires
put_path-n-requires g c = search (room_path, puts_same, rules)
