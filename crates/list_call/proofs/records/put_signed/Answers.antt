use Rattle.list_call.proofs.Stores.{signed_room, signed_puts}
use Rattle.list_call.proofs.records.put_signed.Goals as goal

pub put_in-requires : goal.put_in-requires
put_in-requires c = search signed_room

pub returns : goal.returns
returns c = search signed_puts
