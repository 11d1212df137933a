use Rattle.write_record.proofs.Said.{wrongs}
use Rattle.write_record.proofs.tests.is_wrong.Goals as goal

pub returns-in-Partition : goal.returns-in-Partition
returns-in-Partition c = search wrongs

pub returns-in-Static : goal.returns-in-Static
returns-in-Static c = search wrongs

pub returns-in-Marker : goal.returns-in-Marker
returns-in-Marker c = search wrongs

pub returns-in-End : goal.returns-in-End
returns-in-End c = search wrongs
