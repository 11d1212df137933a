use Rattle.common.proofs.Choose.{cases, told}
use Rattle.write_accept.specs.Tests.{bad_partition}
use Rattle.write_record.proofs.Said.{unlikes}
use Rattle.write_record.proofs.tests.is_bad_partition.Goals as goal

pub returns-then-i-ne1 : goal.returns-then-i-ne1
unfolding bad_partition
returns-then-i-ne1 c = search (unlikes, told, cases) depth 12

pub returns-then-is_bad_partition_flags : goal.returns-then-is_bad_partition_flags
unfolding bad_partition
returns-then-is_bad_partition_flags c = search (unlikes, told, cases) depth 12

pub returns-then-i-gt7 : goal.returns-then-i-gt7
unfolding bad_partition
returns-then-i-gt7 c = search (unlikes, told, cases) depth 12

pub returns : goal.returns
unfolding bad_partition
returns c = search (unlikes, told, cases) depth 12
