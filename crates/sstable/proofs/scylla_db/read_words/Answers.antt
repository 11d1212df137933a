use Rattle.sstable.proofs.Scylla.{reads_scylla}
use Rattle.sstable.proofs.scylla_db.read_words.Goals as goal

pub returns-in-Ok : goal.returns-in-Ok
returns-in-Ok c = search reads_scylla

pub returns-in-Err : goal.returns-in-Err
returns-in-Err c = search reads_scylla
