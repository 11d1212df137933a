use Rattle.data_row_reread.proofs.KnownBodies.{bodies}
use Rattle.common.proofs.Choose.{cases}
use Rattle.data_row.specs.Bodies.{row_deletion_at}
use borrow.Author.Rules.{rules}
use Rattle.data_row_reread.proofs.bodies.known_row_deletion.Goals as goal

pub known_deletion-requires : goal.known_deletion-requires
known_deletion-requires c = search (bodies, rules) depth 12

pub returns-then-f-eq1 : goal.returns-then-f-eq1
unfolding row_deletion_at
returns-then-f-eq1 c = search (bodies, cases, rules) depth 12

pub returns : goal.returns
unfolding row_deletion_at
returns c = search (bodies, cases, rules) depth 12
