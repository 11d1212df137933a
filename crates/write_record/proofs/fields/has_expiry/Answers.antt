use Rattle.common.proofs.Choose.{cases, told}
use Rattle.write_accept.specs.Fields.{has_expiry}
use Rattle.write_record.proofs.fields.has_expiry.Goals as goal

pub returns : goal.returns
unfolding has_expiry
returns c = search (told, cases) depth 12
