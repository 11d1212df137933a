use Rattle.data_row_reread.proofs.KnownBodies.{bodies}
use borrow.Author.Rules.{rules}
use Rattle.data_row_reread.proofs.bodies.known_sizes.Goals as goal

pub known-size-requires : goal.known-size-requires
known-size-requires c = search (bodies, rules) depth 12

pub overflow_add-stop : goal.overflow_add-stop
overflow_add-stop c = search (bodies, rules) depth 12

pub returns : goal.returns
returns c = search (bodies, rules) depth 12

pub known-next-requires : goal.known-next-requires
known-next-requires c = search (bodies, rules) depth 12
