use Rattle.common.proofs.Said.{outcome_err}
use Rattle.list_call.proofs.lists.no_room.Goals as goal

pub returns : goal.returns
returns c = search outcome_err
