use Rattle.common.proofs.Choose.{cases, told}
use Rattle.write_accept.specs.Fields.{has_time}
use Rattle.write_record.proofs.fields.has_time.Goals as goal

pub returns : goal.returns
unfolding has_time
returns c = search (told, cases) depth 12
