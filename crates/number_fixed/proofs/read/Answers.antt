use native.Mathlib.Omega.{arith}
use Rattle.number_fixed.specs.BigEndian.{fixed_at}
use Rattle.common.proofs.Said.{reading}
use Rattle.common.proofs.Choose.{cases}
use Rattle.number_fixed.proofs.BigEndian.{fixed_whole, width_fits}
use borrow.Author.Rules.{rules}
use Rattle.number_fixed.proofs.read.Goals as goal

pub returns-then-width-gt8 : goal.returns-then-width-gt8
unfolding fixed_at
returns-then-width-gt8 c = search (reading, cases, fixed_whole, rules) depth 12

pub returns-then-s-end : goal.returns-then-s-end
unfolding fixed_at
returns-then-s-end c = search (reading, cases, fixed_whole, rules) depth 12

pub returns-then-end-at : goal.returns-then-end-at
unfolding fixed_at
returns-then-end-at c = search (reading, cases, fixed_whole, rules) depth 12

pub returns-then-end-at-2 : goal.returns-then-end-at-2
unfolding fixed_at
returns-then-end-at-2 c = search (reading, cases, fixed_whole, rules) depth 12

pub big_endian-requires : goal.big_endian-requires
unfolding fixed_at
big_endian-requires c = (omega arith, width_fits _ (omega arith))

pub returns : goal.returns
unfolding fixed_at
returns c = search (reading, cases, fixed_whole, rules) depth 12
