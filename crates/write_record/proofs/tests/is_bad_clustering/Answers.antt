use Rattle.common.proofs.Choose.{cases, told}
use Rattle.write_accept.specs.Tests.{bad_clustering}
use Rattle.write_record.proofs.Said.{unlikes}
use Rattle.write_record.proofs.tests.is_bad_clustering.Goals as goal

pub returns-then-i-ne5 : goal.returns-then-i-ne5
unfolding bad_clustering
returns-then-i-ne5 c = search (unlikes, told, cases) depth 12

pub returns-then-is_bad_value_flags : goal.returns-then-is_bad_value_flags
unfolding bad_clustering
returns-then-is_bad_value_flags c = search (unlikes, told, cases) depth 12

pub returns-then-i-column : goal.returns-then-i-column
unfolding bad_clustering
returns-then-i-column c = search (unlikes, told, cases) depth 12

pub returns-then-i-eq8 : goal.returns-then-i-eq8
unfolding bad_clustering
returns-then-i-eq8 c = search (unlikes, told, cases) depth 12

pub returns : goal.returns
unfolding bad_clustering
returns c = search (unlikes, told, cases) depth 12
