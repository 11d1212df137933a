use Rattle.data_row_reread.proofs.KnownBodies.{bodies}
use Rattle.common.proofs.Choose.{cases}
use Rattle.data_row.specs.Bodies.{present_at}
use borrow.Author.Rules.{rules}
use Rattle.data_row_reread.proofs.bodies.known_present.Goals as goal

pub returns-then-f-eq1 : goal.returns-then-f-eq1
unfolding present_at
returns-then-f-eq1 c = search (bodies, cases, rules) depth 12

pub known-missing-requires : goal.known-missing-requires
known-missing-requires c = search (bodies, rules) depth 12

pub overflow_sub-result : goal.overflow_sub-result
overflow_sub-result c = search (bodies, rules) depth 12

pub returns : goal.returns
returns c = search (bodies, cases, rules) depth 12
