use Rattle.common.proofs.Said.{answering}
use Rattle.common.proofs.reading.within.Goals as goal

pub returns-in-Ok : goal.returns-in-Ok
returns-in-Ok t c = search answering

pub returns-in-Err : goal.returns-in-Err
returns-in-Err t c = search answering
