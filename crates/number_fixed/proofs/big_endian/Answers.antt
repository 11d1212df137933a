use Prim.Native.Nat.{◌+◌}
use mathlib.Core.Path.{refl, ◌∙◌, ap}
use native.Mathlib.Omega.{arith}
use native.Mathlib.Numerals.{add-one}
use Rattle.number_fixed.specs.BigEndian.{big_endian}
use Rattle.number_fixed.proofs.BigEndian.{be_fits}
use Rattle.number_fixed.proofs.big_endian.Goals as goal

pub loop-i-init : goal.loop-i-init
unfolding big_endian
loop-i-init c = (omega arith, refl)

pub overflow_add-b : goal.overflow_add-b
overflow_add-b c = omega arith

pub bounds-s-at : goal.bounds-s-at
bounds-s-at c = omega arith

pub overflow_cast-b : goal.overflow_cast-b
overflow_cast-b c = omega (arith, c.type_inv.s (c.args.at + c.loop-i.i))

pub overflow_mul-v : goal.overflow_mul-v
overflow_mul-v c =
    let a = c.args in
    let e = be_fits a.acc a.s.now a.at a.n c.loop-i.i (λ k. (c.type_inv.s k).fits) c.requires.1 (omega arith) in
    omega (arith, rw (← c.loop-i.invariant.1) at e)

pub overflow_add-v : goal.overflow_add-v
overflow_add-v c =
    let a = c.args in
    let e = be_fits a.acc a.s.now a.at a.n c.loop-i.i (λ k. (c.type_inv.s k).fits) c.requires.1 (omega arith) in
    omega (arith, rw (← c.loop-i.invariant.1) at e)

pub loop-i-smaller : goal.loop-i-smaller
loop-i-smaller c = omega arith

pub loop-i-preserved : goal.loop-i-preserved
unfolding big_endian
loop-i-preserved c = (omega arith, rw (add-one, ← c.loop-i.invariant.1) refl)

pub returns : goal.returns
returns c = c.loop-i.invariant.1 ∙ ap (big_endian _ _ _) (omega arith)
