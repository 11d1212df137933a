use Rattle.common.proofs.Choose.{cases}
use Rattle.data_row_reread.proofs.KnownBodies.{bodies}
use Rattle.data_row.specs.Bodies.{body_at}
use borrow.Author.Rules.{rules}
use Rattle.data_row_reread.proofs.bodies.known_body.Goals as goal

pub known_content-requires : goal.known_content-requires
known_content-requires c = search (bodies, rules) depth 12

pub returns : goal.returns
unfolding body_at
returns c = search (bodies, cases, rules) depth 12

pub known_sizes-stop-requires : goal.known_sizes-stop-requires
known_sizes-stop-requires c = search (bodies, rules) depth 12
