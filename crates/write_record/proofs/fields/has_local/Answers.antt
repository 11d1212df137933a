use Rattle.common.proofs.Choose.{cases, told}
use Rattle.write_accept.specs.Fields.{has_local}
use Rattle.write_record.proofs.fields.has_local.Goals as goal

pub returns : goal.returns
unfolding has_local
returns c = search (told, cases) depth 12
