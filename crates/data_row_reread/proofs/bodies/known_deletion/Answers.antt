use Rattle.data_row_reread.proofs.KnownBodies.{bodies}
use Rattle.common.proofs.Choose.{cases}
use Rattle.data_field.specs.Fields.{deletion_at}
use borrow.Author.Rules.{rules}
use Rattle.data_row_reread.proofs.bodies.known_deletion.Goals as goal

pub known_sum-mark-requires : goal.known_sum-mark-requires
known_sum-mark-requires c = search (bodies, rules) depth 12

pub known_sum-local-requires : goal.known_sum-local-requires
known_sum-local-requires c = search (bodies, rules) depth 12

pub returns : goal.returns
unfolding deletion_at
returns c = search (bodies, cases, rules) depth 12
