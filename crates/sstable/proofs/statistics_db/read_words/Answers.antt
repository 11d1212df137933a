use Rattle.sstable.proofs.Statistics.{reads_statistics}
use borrow.Author.Rules.{rules}
use Rattle.sstable.proofs.statistics_db.read_words.Goals as goal

pub returns-in-Ok : goal.returns-in-Ok
returns-in-Ok c = search (reads_statistics, rules)

pub returns-in-Err : goal.returns-in-Err
returns-in-Err c = search (reads_statistics, rules)
