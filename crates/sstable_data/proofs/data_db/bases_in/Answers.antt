use Rattle.common.proofs.Choose.{cases, told}
use Rattle.sstable_data.specs.Data.{bases_in}
use borrow.Author.Rules.{rules}
use Rattle.sstable_data.proofs.data_db.bases_in.Goals as goal

pub returns : goal.returns
unfolding bases_in
returns c = search (told, cases, rules) depth 12
