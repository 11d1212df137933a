use Rattle.sstable_data.proofs.Data.{tells}
use borrow.Author.Rules.{rules}
use Rattle.sstable_data.proofs.data_db.sstable_step.Goals as goal

pub returns-in-Ok-Some : goal.returns-in-Ok-Some
returns-in-Ok-Some c = search (tells, rules)

pub returns-in-Ok-None : goal.returns-in-Ok-None
returns-in-Ok-None c = search (tells, rules)

pub returns-in-Err : goal.returns-in-Err
returns-in-Err c = search (tells, rules)
