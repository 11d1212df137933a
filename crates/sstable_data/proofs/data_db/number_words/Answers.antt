use Rattle.sstable_data.proofs.Data.{numbers}
use borrow.Author.Rules.{rules}
use Rattle.sstable_data.proofs.data_db.number_words.Goals as goal

pub returns-in-Ok : goal.returns-in-Ok
returns-in-Ok c = search (numbers, rules)

pub returns-in-Err : goal.returns-in-Err
returns-in-Err c = search (numbers, rules)
