use Rattle.sstable_data.proofs.Data.{shows}
use borrow.Author.Rules.{rules}
use Rattle.sstable_data.proofs.data_db.sstable_value.Goals as goal

pub returns-then-len-eq0 : goal.returns-then-len-eq0
returns-then-len-eq0 c = search (shows, rules)

pub returns : goal.returns
returns c = search (shows, rules)
