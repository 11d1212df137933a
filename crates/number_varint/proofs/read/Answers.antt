use Rattle.common.proofs.Said.{reading}
use Rattle.common.proofs.Choose.{cases}
use Rattle.number_varint.proofs.Varints.{varint_cases}
use Rattle.number_varint.specs.Varints.{varint_at}
use borrow.Author.Rules.{rules}
use Rattle.number_varint.proofs.read.Goals as goal

pub returns-then-s-end : goal.returns-then-s-end
unfolding varint_at
returns-then-s-end c = search (reading, cases, varint_cases, rules) depth 12

pub returns-then-end-at : goal.returns-then-end-at
unfolding varint_at
returns-then-end-at c = search (reading, cases, varint_cases, rules) depth 12

pub returns-then-b-lt128 : goal.returns-then-b-lt128
returns-then-b-lt128 c = search (reading, cases, varint_cases, rules) depth 12

pub returns-then-end-at-2 : goal.returns-then-end-at-2
returns-then-end-at-2 c = search (reading, cases, varint_cases, rules) depth 12

pub known-requires : goal.known-requires
known-requires c = search (reading, cases, varint_cases, rules) depth 12

pub returns : goal.returns
returns c = search (reading, cases, varint_cases, rules) depth 12
