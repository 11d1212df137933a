use Rattle.common.proofs.Choose.{cases, told}
use Rattle.common.proofs.Said.{reading}
use Rattle.data_row.specs.Flags.{extended_of}
use Rattle.data_row.proofs.flags.extended_of.Goals as goal

pub returns-then-x-eq0 : goal.returns-then-x-eq0
unfolding extended_of
returns-then-x-eq0 c = search (reading, told, cases) depth 12

pub returns-then-may_stand : goal.returns-then-may_stand
unfolding extended_of
returns-then-may_stand c = search (reading, told, cases) depth 12

pub returns-then-x-eq1 : goal.returns-then-x-eq1
unfolding extended_of
returns-then-x-eq1 c = search (reading, told, cases) depth 12

pub returns-then-x-eq2 : goal.returns-then-x-eq2
unfolding extended_of
returns-then-x-eq2 c = search (reading, told, cases) depth 12

pub returns-then-x-eq128 : goal.returns-then-x-eq128
unfolding extended_of
returns-then-x-eq128 c = search (reading, told, cases) depth 12

pub returns : goal.returns
unfolding extended_of
returns c = search (reading, told, cases) depth 12
