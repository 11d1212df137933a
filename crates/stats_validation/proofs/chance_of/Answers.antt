use Rattle.common.proofs.Choose.{cases, told}
use Rattle.common.proofs.Said.{reading}
use Rattle.stats_validation.specs.Validation.{chance_of}
use Rattle.stats_validation.proofs.Doubles.{nan_yes, nan_no, not_nan}
use Rattle.stats_validation.proofs.chance_of.Goals as goal
use Rattle.stats_validation.proofs.chance_of.Goals.{then-value+else-value-2, else-value}

pub returns-then-bits-gt9218868437227405312 : goal.returns-then-bits-gt9218868437227405312
unfolding chance_of
returns-then-bits-gt9218868437227405312 c = search (nan_yes, nan_no, reading, told, cases) depth 12

pub float_from_bits-value : goal.float_from_bits-value
unfolding chance_of
float_from_bits-value c = search (not_nan, reading, cases) depth 12

pub returns-then-value-2 : goal.returns-then-value-2
unfolding chance_of
returns-then-value-2 c = search (nan_yes, nan_no, reading, told, cases) depth 12

pub returns : goal.returns
unfolding chance_of
returns c = elim c.if-value.branch [
  | then-value+else-value-2 w ↦ search (nan_no, reading, cases) depth 12
  | else-value w ↦ search (nan_no, reading, cases) depth 12
]
