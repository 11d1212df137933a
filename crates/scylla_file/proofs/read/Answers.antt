use Rattle.common.proofs.Choose.{cases}
use Rattle.common.proofs.Said.{answering}
use Rattle.scylla_file.specs.Components.{scylla_of}
use Rattle.scylla_file.proofs.read.Goals as goal

pub returns-then-file-gt1073741824 : goal.returns-then-file-gt1073741824
unfolding scylla_of
returns-then-file-gt1073741824 c = search (answering, cases) depth 12

pub returns : goal.returns
unfolding scylla_of
returns c = rw (← c.read_file.ensures) (search cases depth 12)
