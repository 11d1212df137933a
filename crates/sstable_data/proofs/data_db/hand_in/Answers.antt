use Rattle.common.proofs.Choose.{cases, told}
use Rattle.sstable_data.specs.Data.{hand_in}
use borrow.Author.Rules.{rules}
use Rattle.sstable_data.proofs.data_db.hand_in.Goals as goal

pub returns : goal.returns
unfolding hand_in
returns c = search (told, cases, rules) depth 12
