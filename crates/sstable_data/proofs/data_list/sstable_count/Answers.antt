use Rattle.sstable_data.proofs.Data.{counts_items}
use borrow.Author.Rules.{rules}
use Rattle.sstable_data.proofs.data_list.sstable_count.Goals as goal

pub returns : goal.returns
returns c = search (counts_items, rules)
