use native.Mathlib.Omega.{arith}
use Prim.Native.Nat.{◌≤◌}
use Rattle.number_varint.proofs.Marker.{leading_le}
use Rattle.number_varint.proofs.Varints.{known, known_several}
use borrow.Author.Rules.{rules}
use Rattle.number_varint.proofs.known.Goals as goal

pub bounds-s-at : goal.bounds-s-at
bounds-s-at c = search (known, rules) depth 12

pub overflow_add-result : goal.overflow_add-result
overflow_add-result c = search (known, rules) depth 12

pub returns-then-b-lt128 : goal.returns-then-b-lt128
returns-then-b-lt128 c = search (known, rules) depth 12

pub eight-w-requires : goal.eight-w-requires
eight-w-requires c = search (known, rules) depth 12

pub overflow_mul-result : goal.overflow_mul-result
overflow_mul-result c =
    let few : c.ones-n.result ≤ 8 = rw c.ones-n.ensures (leading_le _ (c.type_inv.s c.args.at).fits) in
    omega arith

pub overflow_sub-result : goal.overflow_sub-result
overflow_sub-result c =
    let few : c.ones-n.result ≤ 8 = rw c.ones-n.ensures (leading_le _ (c.type_inv.s c.args.at).fits) in
    omega arith

pub overflow_add-result-3 : goal.overflow_add-result-3
overflow_add-result-3 c = search (known, rules) depth 12

pub returns : goal.returns
returns c = known_several _ _ _ c.requires _ c.ones-n.ensures (λ k. (c.type_inv.s k).fits) (omega arith) _ c.eight-w.ensures
