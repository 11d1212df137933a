use Rattle.common.proofs.Choose.{cases, told}
use Rattle.write_accept.specs.Fields.{stray}
use Rattle.write_record.proofs.fields.is_stray.Goals as goal

pub returns-then-used : goal.returns-then-used
unfolding stray
returns-then-used c = search (told, cases) depth 12

pub returns-then-v-none : goal.returns-then-v-none
unfolding stray
returns-then-v-none c = search (told, cases) depth 12

pub returns : goal.returns
unfolding stray
returns c = search (told, cases) depth 12
