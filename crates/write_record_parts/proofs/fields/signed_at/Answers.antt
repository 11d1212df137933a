use Rattle.write_accept.specs.Fields.{signed_at}
use Rattle.write_record_parts.proofs.fields.signed_at.Goals as goal

pub returns : goal.returns
unfolding signed_at
returns c = cc
