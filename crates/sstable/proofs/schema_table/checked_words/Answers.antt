use Rattle.sstable.proofs.Statistics.{reads_checked}
use borrow.Author.Rules.{rules}
use Rattle.sstable.proofs.schema_table.checked_words.Goals as goal

pub returns-in-Ok : goal.returns-in-Ok
returns-in-Ok c = search (reads_checked, rules)

pub returns-in-Err : goal.returns-in-Err
returns-in-Err c = search (reads_checked, rules)
