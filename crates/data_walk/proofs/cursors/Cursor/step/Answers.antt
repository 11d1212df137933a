use Rattle.data_walk.proofs.Said.{step_again}
use Rattle.data_walk.specs.Steps.{step_at}
use Rattle.call_check.proofs.After.{following}
use Rattle.call_check.proofs.Schemas.{tables}
use Rattle.std.proofs.Common.{rules}
use Rattle.data_walk.proofs.cursors.Cursor.step.Goals as goal

pub step_in-requires : goal.step_in-requires
step_in-requires c = search (tables, rules)

pub returns : goal.returns
unfolding step_at
returns c = search following depth 12

pub returns-in_err-counts : goal.returns-in_err-counts
unfolding step_at
returns-in_err-counts c = step_again _ _ _ c.from_residual.ensures (search following depth 12)
