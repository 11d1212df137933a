use Rattle.common.proofs.Choose.{cases, told}
use Rattle.write_accept.specs.Records.{outside}
use Rattle.write_record.proofs.ranges.is_outside.Goals as goal

pub returns-then-v-base : goal.returns-then-v-base
unfolding outside
returns-then-v-base c = search (told, cases) depth 12

pub returns-then-v-lo : goal.returns-then-v-lo
unfolding outside
returns-then-v-lo c = search (told, cases) depth 12

pub returns-then-used : goal.returns-then-used
unfolding outside
returns-then-used c = search (told, cases) depth 12

pub returns : goal.returns
unfolding outside
returns c = search (told, cases) depth 12
