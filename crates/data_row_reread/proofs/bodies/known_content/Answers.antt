use Rattle.common.proofs.Choose.{cases}
use Rattle.data_row_reread.proofs.KnownBodies.{bodies}
use Rattle.data_row.specs.Bodies.{content_at}
use borrow.Author.Rules.{rules}
use Rattle.data_row_reread.proofs.bodies.known_content.Goals as goal

pub returns : goal.returns
unfolding content_at
returns c = search (bodies, cases, rules) depth 12

pub known_liveness-next-requires : goal.known_liveness-next-requires
known_liveness-next-requires c = search (bodies, rules) depth 12

pub known_row_deletion-next-requires : goal.known_row_deletion-next-requires
known_row_deletion-next-requires c = search (bodies, rules) depth 12

pub known_present-present-requires : goal.known_present-present-requires
known_present-present-requires c = search (bodies, rules) depth 12
