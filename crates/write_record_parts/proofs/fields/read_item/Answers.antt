use Rattle.write_accept.specs.Fields.{item_of}
use Rattle.write_record_parts.proofs.fields.read_item.Goals as goal

pub returns : goal.returns
unfolding item_of
returns c = cc
