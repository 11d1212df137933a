use Rattle.sstable_data.proofs.Data.{item_is}
use borrow.Author.Rules.{rules}
use Rattle.sstable_data.proofs.data_db.item_words.Goals as goal

pub returns : goal.returns
returns c = search (item_is, rules)
