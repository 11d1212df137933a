use Rattle.sstable_data.proofs.Data.{lists_items}
use borrow.Author.Rules.{rules}
use Rattle.sstable_data.proofs.data_list.sstable_list.Goals as goal

pub returns : goal.returns
returns c = search (lists_items, rules)
