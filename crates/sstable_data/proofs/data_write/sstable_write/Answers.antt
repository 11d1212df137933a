use Rattle.sstable_data.proofs.Data.{writes_data}
use borrow.Author.Rules.{rules}
use Rattle.sstable_data.proofs.data_write.sstable_write.Goals as goal

pub returns : goal.returns
returns c = search (writes_data, rules)
