use Rattle.data_row_reread.proofs.KnownBodies.{bodies}
use Rattle.common.proofs.Choose.{cases}
use Rattle.data_row.specs.Bodies.{expiry_at}
use borrow.Author.Rules.{rules}
use Rattle.data_row_reread.proofs.bodies.known_expiry.Goals as goal

pub known_sum-ttl-requires : goal.known_sum-ttl-requires
known_sum-ttl-requires c = search (bodies, rules) depth 12

pub known_sum-local-requires : goal.known_sum-local-requires
known_sum-local-requires c = search (bodies, rules) depth 12

pub returns : goal.returns
unfolding expiry_at
returns c = search (bodies, cases, rules) depth 12
