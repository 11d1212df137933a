use Rattle.common.proofs.Choose.{cases}
use Rattle.data_row_reread.proofs.KnownBodies.{bodies}
use Rattle.data_row.specs.Bodies.{liveness_at}
use borrow.Author.Rules.{rules}
use Rattle.data_row_reread.proofs.bodies.known_liveness.Goals as goal

pub known_expiry-requires : goal.known_expiry-requires
known_expiry-requires c = search (bodies, rules) depth 12

pub returns-then-f-eq1-2 : goal.returns-then-f-eq1-2
unfolding liveness_at
returns-then-f-eq1-2 c = search (bodies, cases, rules) depth 12

pub returns-then-f-eq1 : goal.returns-then-f-eq1
unfolding liveness_at
returns-then-f-eq1 c = search (bodies, cases, rules) depth 12

pub returns : goal.returns
unfolding liveness_at
returns c = search (bodies, cases, rules) depth 12

pub known_sum-timestamp-requires : goal.known_sum-timestamp-requires
unfolding liveness_at
known_sum-timestamp-requires c = search (bodies, cases, rules) depth 12
