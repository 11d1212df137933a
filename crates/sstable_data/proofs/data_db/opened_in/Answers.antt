use Rattle.common.proofs.Choose.{cases, told}
use Rattle.sstable_data.specs.Data.{opened_in}
use borrow.Author.Rules.{rules}
use Rattle.sstable_data.proofs.data_db.opened_in.Goals as goal

pub returns : goal.returns
unfolding opened_in
returns c = search (told, cases, rules) depth 12
